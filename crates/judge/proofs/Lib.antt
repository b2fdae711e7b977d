pub mod ReadLaws
pub mod LabelLaws
pub mod ModifierLaws
pub mod DeclaredLaws
pub mod CallLaws
pub mod RecordLaws
