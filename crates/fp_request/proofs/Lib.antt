pub mod ReleasedWork
pub mod Rises
pub mod Before
pub mod Strict
pub mod Ceiling
pub mod Parts
mod ReleasedExamples
mod OrderExamples
mod RankedExamples
mod Insertion
mod Aboves
mod InPlace
mod Limits
pub mod Keyed
mod KeyExamples
pub mod Gathered
