pub mod TokenLaws
pub mod LabelledLaws
pub mod FillLaws
