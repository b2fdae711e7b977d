pub mod Number
pub mod Block
