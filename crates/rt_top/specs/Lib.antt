pub mod Report
pub mod Causes
pub mod Reading
