pub mod Answers
pub mod Stack
pub mod ModifierFacts
pub mod Limit
