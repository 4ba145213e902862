pub mod Puts
pub mod Sinks
pub mod Buffers
pub mod Pairs
pub mod Usable
pub mod Laws
