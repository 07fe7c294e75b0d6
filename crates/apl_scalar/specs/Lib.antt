pub mod Counting
pub mod Reading
pub mod Scalar
pub mod Table
