pub mod Equal
pub mod Rust
pub mod Bounds
pub mod Stored
pub mod Examples
pub mod Laws
