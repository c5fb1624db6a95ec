-- What only private functions promise each other.
pub mod Fresh
pub mod Spelt
