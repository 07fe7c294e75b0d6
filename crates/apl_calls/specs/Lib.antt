pub mod Callings
pub mod Ended
pub mod Waitings
pub mod WentOn
