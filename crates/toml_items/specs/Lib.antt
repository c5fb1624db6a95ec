pub mod Document
pub mod Item
pub mod Plain
