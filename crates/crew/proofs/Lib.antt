pub mod Crossing
pub mod Fixed
pub mod Joins
