pub mod Core
pub mod Due
pub mod Histories
pub mod Invariant
pub mod NoControl
pub mod Retry
pub mod Updating
