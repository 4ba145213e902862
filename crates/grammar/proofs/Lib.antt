pub mod Accepted
mod Alone
pub mod Behind
mod BytesBack
pub mod Classes
mod FloatsBack
pub mod Headers
pub mod Looking
mod NamesBack
mod NumbersBack
mod Numerals
mod RawBack
pub mod ReadBack
pub mod Runs
pub mod Spelling
pub mod Strings
pub mod Tables
mod TextsBack
pub mod Unique
mod WordsBack
pub mod Worked
