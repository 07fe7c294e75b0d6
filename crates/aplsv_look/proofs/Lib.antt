pub mod Found
pub mod LookCauses
