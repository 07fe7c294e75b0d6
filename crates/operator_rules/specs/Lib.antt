pub mod Gathering
pub mod Inner
pub mod Outer
pub mod Reduction
pub mod Reduce
pub mod Scan
pub mod Apply
