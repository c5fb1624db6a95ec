pub mod Sharing
pub mod Nodes
pub mod TreeNodes
pub mod KeptNodes
pub mod Lists
mod CountExamples
