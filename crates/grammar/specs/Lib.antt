pub mod Trees
pub mod Tokens
pub mod Strings
pub mod Items
pub mod Readings
pub mod ReadBack
pub mod Worked
