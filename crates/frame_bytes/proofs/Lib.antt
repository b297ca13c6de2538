pub mod Samples
pub mod Sizes
pub mod Kept
