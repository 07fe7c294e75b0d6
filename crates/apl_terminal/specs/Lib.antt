pub mod Commands
pub mod LineKind
pub mod Terminal
pub mod TerminalLaws
