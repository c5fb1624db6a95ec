mod AtFile
pub mod Attempt
pub mod Budgets
pub mod CommandLaws
pub mod OneFile
pub mod TwoFiles
pub mod NamedLeaf
pub mod ReadSecond
pub mod SecondFile
pub mod Statuses
mod Steps
pub mod Taking
mod Examples
