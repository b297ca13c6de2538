pub mod Saturate
pub mod Hold
pub mod Finished
pub mod Examples
pub mod Rust
pub mod Valid
