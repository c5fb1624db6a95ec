pub mod Counts
pub mod Runs
pub mod Demands
pub mod Windows
pub mod Goes
pub mod Starts
pub mod Setting
pub mod Serving
pub mod Plain
pub mod Giving
pub mod Over
pub mod RunsGive
pub mod Examples
pub mod LevelExamples
mod GivingExamples
