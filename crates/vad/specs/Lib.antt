pub mod Hold
pub mod Decision
pub mod State
pub mod Strand
pub mod Examples
pub mod Rust
pub mod Agrees
pub mod Valid
