pub mod IndentLaws
