pub mod Bounds
pub mod ByRefusal
