pub mod Printed
pub mod ReadBack
mod RowTails
pub mod EndingRows
pub mod Printers
