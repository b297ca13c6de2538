pub mod Frames
pub mod Layouts
pub mod Reads
