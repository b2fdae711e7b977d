pub mod Pattern
pub mod Language
pub mod Tree
pub mod Search
pub mod Answers
pub mod EmptyTextExamples
pub mod Accepts
pub mod LanguageExamples
