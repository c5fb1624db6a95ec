pub mod Printing
pub mod Printer
pub mod inner
