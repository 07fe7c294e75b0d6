pub mod Entering
pub mod GivenBack
pub mod Participants
pub mod Seats
pub mod Serving
pub mod Sittings
pub mod SoFar
