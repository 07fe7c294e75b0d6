pub mod Front
pub mod Grammar
pub mod Number
pub mod Role
pub mod Scanning
pub mod Token
