mod Hashes
pub mod Measured
mod Naming
mod Numbers
mod Reserved
mod Runs
mod TextOf
pub mod Writing
