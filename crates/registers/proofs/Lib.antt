pub mod Part
pub mod Bytes
pub mod Highest
pub mod Top
pub mod Words
