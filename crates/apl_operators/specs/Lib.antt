pub mod Lines
pub mod Parts
pub mod Rows
pub mod Products
pub mod Running
