mod Edited
pub mod Laws
mod Examples
