pub mod Calls
pub mod Demands
pub mod Laws
pub mod Dead
