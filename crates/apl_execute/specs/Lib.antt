pub mod Copying
pub mod Merge
pub mod Text
pub mod TextLaws
pub mod Weighing
