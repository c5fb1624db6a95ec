-- What only private functions promise each other.
pub mod Counting
pub mod First
pub mod Told
pub mod Watches
