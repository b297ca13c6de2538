pub mod Silence
pub mod Witness
pub mod Units
pub mod Dead
