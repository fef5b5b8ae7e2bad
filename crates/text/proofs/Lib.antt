pub mod Decimals
pub mod Writing
pub mod Lengths
