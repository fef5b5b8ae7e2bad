pub mod EventBytes
pub mod EventRows
pub mod RecordBytes
pub mod RecordRows
