pub mod Alone
pub mod Fits
pub mod Saw
pub mod Verdict
pub mod Worked
