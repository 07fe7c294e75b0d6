pub mod Answer
pub mod Entry
pub mod Fits
pub mod Row
pub mod Work
