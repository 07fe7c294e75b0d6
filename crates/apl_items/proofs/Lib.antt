pub mod AlongLemmas
pub mod AnswerLemmas
pub mod AxisLemmas
pub mod MoveLemmas
pub mod PlaceLemmas
pub mod RowLemmas
pub mod ShapeLemmas
