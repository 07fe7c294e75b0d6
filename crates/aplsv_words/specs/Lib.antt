pub mod Table
pub mod Meaning
pub mod Stray
pub mod CommandLine
pub mod Laws
pub mod Looks
