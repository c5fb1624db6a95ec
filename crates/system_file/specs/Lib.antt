pub mod Document
pub mod Faults
pub mod SystemFile
pub mod Written
pub mod Printed
pub mod inner
