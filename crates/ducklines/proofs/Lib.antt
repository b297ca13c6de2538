pub mod Layouts
pub mod Ran
pub mod Cut
