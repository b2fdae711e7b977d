pub mod Operands
pub mod Place
