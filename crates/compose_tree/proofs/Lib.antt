pub mod TreeRuns
mod TreeExists
pub mod Sound
mod CoreMisses
pub mod Heavier
mod CoreFails
pub mod Refusals
pub mod Settling
pub mod Ways
mod TruthExamples
