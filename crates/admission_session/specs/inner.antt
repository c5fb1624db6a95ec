-- What only private functions promise each other.
pub mod Open
pub mod Shares
pub mod Undone
pub mod Settled
pub mod ParentFaults
