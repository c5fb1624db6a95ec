pub mod Pieces
pub mod Script
pub mod Guests
pub mod inner
