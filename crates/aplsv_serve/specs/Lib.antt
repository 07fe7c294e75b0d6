pub mod Ends
pub mod Halls
pub mod Receipts
pub mod Runs
pub mod Starts
pub mod Tasks
pub mod UserTasks
