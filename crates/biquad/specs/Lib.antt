pub mod Tick
pub mod Sections
