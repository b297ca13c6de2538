pub mod Strand
pub mod Words
