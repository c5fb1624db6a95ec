pub mod Lower
mod Most
mod Halving
mod Tasks
mod Reading
pub mod Grown
pub mod OneMost
mod WorkExamples
