pub mod InstructionRows
