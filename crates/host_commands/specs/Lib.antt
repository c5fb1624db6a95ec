pub mod Session
pub mod Place
pub mod Bulk
pub mod inner
