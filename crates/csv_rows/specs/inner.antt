-- What only private functions promise each other.
pub mod Stops
pub mod Near
pub mod Digits
pub mod Errors
