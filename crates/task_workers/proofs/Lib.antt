pub mod Dealt
pub mod Gathered
mod Loads
mod Changing
mod Working
