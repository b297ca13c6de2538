pub mod Table
pub mod Steps
pub mod Lists
pub mod Demands
pub mod Dead
pub mod Events
