pub mod Condition1
pub mod Moves
pub mod Requests
pub mod Settled
pub mod History
pub mod Condition3
pub mod Bits
