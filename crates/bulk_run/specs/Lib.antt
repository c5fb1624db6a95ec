pub mod Summary
pub mod Steps
