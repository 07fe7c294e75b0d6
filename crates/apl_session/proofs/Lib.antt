pub mod Around
pub mod Commanding
pub mod Going
pub mod Inside
pub mod Lone
pub mod Moves
pub mod Progressing
