pub mod Registers
pub mod Finds
pub mod Searches
pub mod VectorRows
pub mod SearchRows
