pub mod Request
pub mod File
pub mod Filed
pub mod Kept
pub mod Plain
pub mod Protocol
