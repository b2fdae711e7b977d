pub mod NamesLaws
pub mod TableLaws
pub mod WrittenLaws
