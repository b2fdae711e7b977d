pub mod StandingLaws
pub mod FaultLaws
pub mod AskedLaws
pub mod OutcomeLaws
