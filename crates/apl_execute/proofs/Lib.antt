pub mod Copies
pub mod Mentions
pub mod MergeLaw
pub mod TextLaw
pub mod Weights
