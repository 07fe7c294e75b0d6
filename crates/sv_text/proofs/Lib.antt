pub mod ArrayForms
pub mod Axes
pub mod ItemForms
pub mod SameValues
pub mod ShapeForms
pub mod ValueGlyphs
pub mod ValueLaws
