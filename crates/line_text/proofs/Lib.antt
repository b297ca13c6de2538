pub mod Putting
pub mod Digits
pub mod Parts
pub mod Cast
