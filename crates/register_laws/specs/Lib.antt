pub mod Searches
pub mod VectorRows
pub mod SearchRows
