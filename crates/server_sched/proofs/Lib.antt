mod Choosing
mod Releasing
mod ServedRuns
mod Renewing
mod Tallying
mod Underway
mod LevelServed
mod ServerKept
pub mod Counted
mod Conforming
mod Patterned
mod PatternExamples
mod SlotCounted
