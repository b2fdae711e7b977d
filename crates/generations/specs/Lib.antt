pub mod Older
pub mod Newer
pub mod Generations
pub mod Apart
pub mod GenerationPages
