pub mod StackLaws
pub mod CodeLaws
pub mod AggregateLaws
