pub mod Laws
pub mod Model
pub mod Boundary
pub mod Replay
pub mod Parts
