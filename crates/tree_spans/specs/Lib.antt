pub mod Shares
pub mod NodeView
pub mod Levels
pub mod TreeCounts
pub mod TreeSpans
pub mod KeptNodes
pub mod inner
