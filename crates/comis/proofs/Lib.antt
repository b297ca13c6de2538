pub mod Order
pub mod Fits
pub mod Rust
pub mod Stretch
pub mod Stays
