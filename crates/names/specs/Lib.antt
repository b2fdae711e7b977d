pub mod Examples
pub mod Names
pub mod Table
pub mod Written
