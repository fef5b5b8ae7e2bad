pub mod Steps
pub mod Runs
pub mod Counts
pub mod Cuts
pub mod Conditions
pub mod Example
