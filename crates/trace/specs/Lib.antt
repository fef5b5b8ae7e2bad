pub mod Fields
pub mod Format
pub mod Records
pub mod RecordRows
pub mod BodyRows
pub mod Kinds
