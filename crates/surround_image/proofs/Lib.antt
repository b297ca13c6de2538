pub mod Codecs
pub mod Valid
pub mod Words
pub mod Rules
