-- What only private functions promise each other.
pub mod Forms
