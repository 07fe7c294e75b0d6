pub mod FullRounds
pub mod Retrying
pub mod Rounds
pub mod Serving
pub mod SoFar
pub mod Stepping
pub mod UserTurns
