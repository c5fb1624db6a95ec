pub mod Elements
pub mod Decimals
pub mod Texts
pub mod ReadBack
pub mod Newline
pub mod TextBack
pub mod Pieces
pub mod Standing
mod Examples
mod FaultExamples
mod PrintedExamples
