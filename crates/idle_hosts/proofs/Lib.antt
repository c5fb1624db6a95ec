mod Changes
mod Told
mod Built
mod Meant
mod Same
mod Causal
mod Idle
pub mod Hosts
mod Examples
