pub mod Classes
pub mod Decode
pub mod Distances
pub mod Encode
pub mod Grade
pub mod Lookup
pub mod RoundTrip
