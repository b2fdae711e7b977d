pub mod CallsLaws
pub mod CopyAgainLaws
pub mod OneCopyLaws
pub mod OrderLaws
pub mod SignatureLaws
pub mod WellFormedLaws
