pub mod Apart
pub mod Checking
pub mod Decoding
pub mod HighBytes
pub mod Finding
mod InOrder
mod Sequences
