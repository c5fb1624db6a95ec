pub mod Stolen
pub mod Halting
pub mod Units
