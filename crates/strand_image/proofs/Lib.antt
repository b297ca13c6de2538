pub mod Codecs
pub mod Rules
pub mod Valid
pub mod Words
