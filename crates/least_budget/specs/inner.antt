-- What only private functions promise each other.
pub mod Cuts
pub mod Within
pub mod Hits
pub mod CommonHit
