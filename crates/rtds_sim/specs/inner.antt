-- What only private functions promise each other.
pub mod Accounts
pub mod Lists
pub mod Running
pub mod Soonest
pub mod Telling
