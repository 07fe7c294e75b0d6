pub mod Clock
pub mod Request
pub mod File
pub mod Plain
pub mod Protocol
pub mod Run
pub mod Served
