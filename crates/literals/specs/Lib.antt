pub mod Bytes
pub mod Characters
pub mod Floats
pub mod Integers
