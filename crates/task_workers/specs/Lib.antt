pub mod Dealing
pub mod Posts
