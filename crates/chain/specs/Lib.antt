pub mod Chain
pub mod ReplyRows
pub mod KeptRows
pub mod CallRows
