-- What only private functions promise each other.
pub mod Shorts
pub mod Steps
