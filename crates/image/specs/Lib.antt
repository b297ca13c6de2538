pub mod Layout
pub mod Edition
pub mod Chain
pub mod Edition1
pub mod Image
pub mod Port
pub mod Words
