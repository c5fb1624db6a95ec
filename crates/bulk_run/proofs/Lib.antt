mod HostRun
mod Counting
mod Blocks
mod Copies
mod HostOfCores
pub mod OneCount
pub mod NoMiss
mod Examples
