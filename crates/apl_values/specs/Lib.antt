pub mod Classing
pub mod Known
pub mod Parts
pub mod Pending
pub mod Places
pub mod Rows
pub mod Values
