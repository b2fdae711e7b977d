pub mod FromLaws
pub mod ApplyLaws
pub mod ProgressLaws
pub mod BasesLaws
pub mod TableLaws
pub mod HeldLaws
pub mod WalkedSoFar
pub mod CheckLaws
