pub mod ValueLaws
pub mod ExactLaws
pub mod SameLaws
