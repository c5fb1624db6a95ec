-- What only private functions promise each other.
pub mod Steps
