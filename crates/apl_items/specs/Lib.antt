pub mod Along
pub mod Answers
pub mod Axes
pub mod Axis
pub mod Extension
pub mod Moves
pub mod Places
pub mod Shapes
