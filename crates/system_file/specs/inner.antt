-- What only private functions promise each other.
pub mod Reading
pub mod Plain
pub mod Told
pub mod Named
