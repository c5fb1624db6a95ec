pub mod Rtds
pub mod Demand
pub mod Giving
