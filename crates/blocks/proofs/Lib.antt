pub mod Lists
pub mod Bytes
pub mod Checks
pub mod Images
pub mod Single
