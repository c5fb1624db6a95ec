-- What only private functions promise each other.
pub mod Multiple
pub mod Exchanged
