pub mod Laws
pub mod Share
pub mod Cell
pub mod Cells
pub mod Log
pub mod Inside
pub mod Member
