pub mod Fields
pub mod Run
pub mod Codec
pub mod Forms
