pub mod Asked
pub mod Isolated
pub mod Witness
pub mod Short
pub mod Breaking
pub mod Least
pub mod Whole
pub mod Neighbouring
pub mod InTrace
pub mod Exposed
pub mod OneIsolation
pub mod Listed
pub mod Sums
pub mod Fits
pub mod Fewer
mod Examples
