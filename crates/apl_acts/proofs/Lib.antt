pub mod AloneLaw
pub mod Asked
pub mod Controlled
pub mod HeardLaw
pub mod Offered
pub mod Queried
pub mod RowTests
pub mod Tested
