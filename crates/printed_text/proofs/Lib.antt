pub mod Drafts
pub mod Printable
pub mod Printing
pub mod SameLines
pub mod Steps
pub mod UserHeadings
pub mod Walks
