pub mod Covered
pub mod Shown
pub mod Admits
pub mod Walked
pub mod Failing
pub mod OneFlaw
pub mod ProvesExamples
mod FlawExamples
