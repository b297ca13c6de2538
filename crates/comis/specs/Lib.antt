pub mod Shown
pub mod Envelope
pub mod MixState
pub mod LoopBank
pub mod Engine
pub mod Loops
pub mod Rust
