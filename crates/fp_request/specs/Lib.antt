pub mod Released
pub mod Ranks
pub mod Lowest
pub mod Parts
pub mod Terms
pub mod Keys
pub mod inner
