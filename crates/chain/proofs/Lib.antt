pub mod Chain
pub mod Conditions
pub mod ReplyRows
pub mod KeptRows
pub mod CallRows
