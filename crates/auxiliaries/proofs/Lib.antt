mod Lines
mod Names
pub mod Places
