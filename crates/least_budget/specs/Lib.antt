pub mod Answers
pub mod Levels
pub mod Gatherings
pub mod inner
