pub mod Determined
pub mod Bench
pub mod Refused
pub mod LeftOut
pub mod Threshold
