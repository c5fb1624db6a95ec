-- What only private functions promise each other.
pub mod Back
pub mod Rates
pub mod Settled
