pub mod DefinitionRows
pub mod RuleRows
