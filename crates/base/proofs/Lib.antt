pub mod Cases
pub mod SpliceLaws
pub mod Table
