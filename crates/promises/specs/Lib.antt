pub mod StandIns
pub mod Loudness
pub mod Voice
pub mod Examples
