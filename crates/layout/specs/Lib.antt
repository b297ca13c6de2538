pub mod Layout
pub mod Weights
pub mod Valid
pub mod Laws
