pub mod TraceRows
pub mod TextRows
pub mod Example
