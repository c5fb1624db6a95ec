pub mod Due
pub mod Multiples
pub mod inner
