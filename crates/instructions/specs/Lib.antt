pub mod Instructions
pub mod InstructionRows
