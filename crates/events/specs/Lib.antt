pub mod Events
pub mod Answers
pub mod Kinds
