pub mod NumberReading
pub mod Numeral
pub mod Reading
