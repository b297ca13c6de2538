pub mod Settings
pub mod Valid
