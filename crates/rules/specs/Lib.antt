pub mod Rules
pub mod Rust
pub mod RustState
pub mod Loudness
pub mod Mono
