pub mod LineLaws
pub mod ElementLaws
pub mod ElementsShownLaws
