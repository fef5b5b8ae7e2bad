pub mod Models
pub mod Conditions
pub mod Wrong
