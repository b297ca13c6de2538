pub mod Bs1770
pub mod Weighing
pub mod Rest
pub mod Level
pub mod Deque
pub mod Heard
pub mod Valid
