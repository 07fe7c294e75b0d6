pub mod ListForms
pub mod Lists
pub mod Literals
pub mod NameForms
pub mod NumberForms
pub mod Numerals
pub mod Readers
pub mod Told
