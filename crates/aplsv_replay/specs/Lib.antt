pub mod Endings
pub mod Replayed
pub mod Rounds
pub mod SeatTurns
pub mod Together
