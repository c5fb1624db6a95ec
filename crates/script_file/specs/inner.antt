-- What only private functions promise each other.
pub mod Taken
pub mod Guests
pub mod Fields
