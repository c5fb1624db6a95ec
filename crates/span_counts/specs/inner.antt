-- What only private functions promise each other.
pub mod Services
pub mod Waits
