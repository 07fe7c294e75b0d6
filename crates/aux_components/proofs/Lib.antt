mod RequestLemmas
mod FileLemmas
mod KeptLemmas
