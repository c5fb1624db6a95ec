pub mod Proves
pub mod Flaws
pub mod inner
