pub mod Fills
pub mod Exact
