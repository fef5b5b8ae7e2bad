pub mod On
pub mod Going
pub mod Printing
