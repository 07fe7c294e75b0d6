pub mod Causes
pub mod Sights
pub mod Statuses
