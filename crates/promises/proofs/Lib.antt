pub mod FastCoeff
pub mod Hold
