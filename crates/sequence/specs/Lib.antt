pub mod History
pub mod Counted
pub mod Latest
pub mod All
