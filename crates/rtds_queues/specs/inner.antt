-- What only private functions promise each other.
pub mod Queues
pub mod ByEnd
pub mod Vcpus
