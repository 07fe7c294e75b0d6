pub mod Ends
pub mod Entries
pub mod Fits
pub mod Steps
pub mod Laws
