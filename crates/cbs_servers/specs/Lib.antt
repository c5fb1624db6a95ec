pub mod Cbs
pub mod Giving
pub mod Overrun
pub mod Parts
