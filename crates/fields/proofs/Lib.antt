pub mod FieldLaws
pub mod AttachedLaws
pub mod AnswerLaws
