pub mod Has
pub mod RecordRows
pub mod BodyRows
