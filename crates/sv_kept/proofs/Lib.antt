pub mod ShareLemmas
mod LogLemmas
