pub mod Labelled
pub mod Tokens
