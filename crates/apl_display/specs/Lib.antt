pub mod Display
pub mod Format
pub mod Joined
pub mod Matrices
pub mod Worked
