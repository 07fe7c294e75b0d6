pub mod Fields
pub mod Number
