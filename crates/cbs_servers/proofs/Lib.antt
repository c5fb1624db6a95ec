pub mod Steps
pub mod Windows
mod OverrunSteps
pub mod LateByOthers
mod NoOverrun
pub mod NeverLate
pub mod Accounts
mod Counted
pub mod BusySupply
pub mod Gives
pub mod Runs
mod Parts
mod Examples
mod OverrunExamples
