pub mod TextLaws
pub mod FitsLaws
