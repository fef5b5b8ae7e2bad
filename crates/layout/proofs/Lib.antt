pub mod EventRows
pub mod Fresh
pub mod RecordRows
