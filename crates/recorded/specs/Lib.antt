pub mod Signals
pub mod Reads
pub mod Words
