pub mod Admit
pub mod Certify
pub mod Check
