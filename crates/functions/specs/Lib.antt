pub mod Order
pub mod Table
pub mod Functions
pub mod Lookup
pub mod Answers
pub mod TableContract
pub mod TableExamples
pub mod TablePages
