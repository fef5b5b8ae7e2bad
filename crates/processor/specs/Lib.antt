pub mod Logic
pub mod Controls
pub mod Offsets
pub mod Access
pub mod Rows
