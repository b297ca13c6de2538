pub mod Beds
pub mod Laws
