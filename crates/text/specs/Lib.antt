pub mod Display
pub mod Pretty
pub mod Layout
pub mod Chain
pub mod LaidOut
pub mod Answers
pub mod Measured
