pub mod Text
pub mod Arguments
