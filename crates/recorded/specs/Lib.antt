pub mod Session
pub mod Replay
pub mod Theorems
pub mod Example
pub mod ProgramText
