pub mod ServingLaws
pub mod SoFar
pub mod SoFarLaws
pub mod TurnLaws
pub mod Turns
pub mod UserTurnLaws
pub mod Worked
