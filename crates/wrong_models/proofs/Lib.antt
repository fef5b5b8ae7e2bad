pub mod Ties
pub mod Breaks
