pub mod Blank
pub mod Degrees
pub mod Placed
pub mod Stored
pub mod Used
pub mod Promised
