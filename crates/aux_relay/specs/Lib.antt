pub mod Changes
pub mod Request
pub mod History
pub mod Plain
pub mod Queues
pub mod Worked
