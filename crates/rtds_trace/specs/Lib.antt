pub mod Printed
pub mod RunTrace
pub mod RunText
