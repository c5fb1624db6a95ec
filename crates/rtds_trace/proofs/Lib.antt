pub mod Gathered
pub mod Rows
pub mod Pushing
pub mod Keeping
pub mod Told
pub mod Traced
pub mod RunTraces
mod PrintedExamples
