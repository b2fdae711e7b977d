pub mod BeginsLaws
pub mod CutLaws
pub mod OrderLaws
pub mod PlaceLaws
pub mod SignatureLaws
pub mod SignedLaws
pub mod TableLaws
pub mod CheckTableLaws
