pub mod Logarithm
pub mod Laws
pub mod Examples
