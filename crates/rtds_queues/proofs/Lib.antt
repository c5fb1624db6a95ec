pub mod Order
pub mod FirstOf
pub mod Listing
pub mod Walking
pub mod Queueing
pub mod Membership
pub mod Turning
pub mod Firsts
pub mod Setting
pub mod Beginning
pub mod Choices
mod KeyExamples
mod EndExamples
