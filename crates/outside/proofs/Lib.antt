pub mod Growing
pub mod ReadSoFar
mod Examples
