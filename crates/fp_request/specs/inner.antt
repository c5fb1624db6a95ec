-- What only private functions promise each other.
pub mod Counted
pub mod Inserted
