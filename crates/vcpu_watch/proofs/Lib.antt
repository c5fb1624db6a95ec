pub mod Breaches
pub mod Tallying
pub mod Telling
