pub mod GenerationsLaws
pub mod ApartLaws
pub mod NameLaws
