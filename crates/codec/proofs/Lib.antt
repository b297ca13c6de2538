pub mod Kept
pub mod Forms
pub mod Accepted
pub mod Numbers
pub mod Places
pub mod Again
pub mod Runs
pub mod Rows
