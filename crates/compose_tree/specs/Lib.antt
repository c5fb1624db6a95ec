pub mod Truth
pub mod Steps
pub mod Keeping
pub mod Kept
pub mod Shorts
pub mod inner
