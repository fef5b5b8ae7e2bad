pub mod EntryChecks
pub mod CheckRows
