pub mod Cuts
mod Numbers
pub mod Parting
