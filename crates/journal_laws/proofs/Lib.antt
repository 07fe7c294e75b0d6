pub mod Reading
pub mod NeverFull
