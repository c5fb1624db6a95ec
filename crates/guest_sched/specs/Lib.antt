pub mod Spans
pub mod Levels
pub mod MoreWindows
pub mod inner
