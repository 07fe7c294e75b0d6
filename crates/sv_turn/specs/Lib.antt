pub mod Journals
pub mod Views
pub mod Order
pub mod Plays
pub mod Seating
pub mod Turning
