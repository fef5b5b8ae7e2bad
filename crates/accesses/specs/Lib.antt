pub mod Accesses
pub mod AccessRows
