-- What only private functions promise each other.
pub mod Neighbours
pub mod Ties
pub mod Whole
