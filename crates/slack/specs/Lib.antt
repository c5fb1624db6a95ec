pub mod MostWork
pub mod inner
