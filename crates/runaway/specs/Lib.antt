pub mod Runaway
