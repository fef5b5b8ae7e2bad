pub mod AccessRows
