pub mod Steps
pub mod Images
pub mod Dead
