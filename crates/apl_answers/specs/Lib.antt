pub mod Brought
pub mod Numbers
pub mod WentOn
