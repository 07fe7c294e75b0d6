mod Cuts
mod Fronts
mod NameBytes
mod Numbers
