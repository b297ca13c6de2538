pub mod Squaring
pub mod Leading
pub mod Bounds
pub mod Divided
pub mod Small
pub mod ByKind
pub mod Results
pub mod Examples
