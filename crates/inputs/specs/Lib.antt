pub mod Fields
pub mod Hex
pub mod Lines
pub mod TableLines
