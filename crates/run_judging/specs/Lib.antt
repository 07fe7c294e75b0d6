pub mod FirstIllegal
pub mod Judged
