-- What only private functions promise each other.
pub mod Choice
pub mod Keys
pub mod Releases
pub mod Places
pub mod Keep
pub mod Ready
pub mod LastWindow
pub mod LastSpan
