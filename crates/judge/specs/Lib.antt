pub mod Call
pub mod Judgeable
pub mod Label
