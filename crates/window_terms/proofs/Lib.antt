pub mod Quotients
pub mod Written
