pub mod LevelTold
pub mod BedTold
pub mod DetectorTold
pub mod StrandTold
pub mod DuckTold
pub mod Exact
