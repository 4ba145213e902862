mod Pairs
mod Suffixes
