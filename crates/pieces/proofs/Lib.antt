pub mod PieceLaws
pub mod ShapeLaws
