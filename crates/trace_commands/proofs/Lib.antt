pub mod Laws
mod Examples
mod Walked
