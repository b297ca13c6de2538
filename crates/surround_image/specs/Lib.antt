pub mod Surround
pub mod Words
pub mod Sizes
