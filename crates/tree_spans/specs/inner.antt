-- What only private functions promise each other.
pub mod Walking
pub mod Nodes
