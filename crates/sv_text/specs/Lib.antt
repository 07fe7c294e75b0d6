pub mod Printable
pub mod ReadsValue
pub mod Value
pub mod ValueReading
pub mod ValueText
