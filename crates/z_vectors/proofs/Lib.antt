-- Operands of instructions that pass the operand tests.
pub mod LetThrough
