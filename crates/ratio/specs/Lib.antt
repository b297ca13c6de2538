pub mod Status
pub mod Finite
pub mod Frame
pub mod Rust
pub mod Lists
pub mod Examples
pub mod Laws
