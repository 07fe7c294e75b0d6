pub mod Auxiliaries
