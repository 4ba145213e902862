pub mod Forms
pub mod Tally
