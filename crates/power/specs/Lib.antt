pub mod Roots
pub mod Power
pub mod Bounds
pub mod Examples
