pub mod KindLaws
pub mod ViewLaws
pub mod ChainedLaws
pub mod FootLaws
pub mod NodeLaws
pub mod ViewedLaws
