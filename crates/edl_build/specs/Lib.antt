pub mod Clip
pub mod Part
pub mod Build
