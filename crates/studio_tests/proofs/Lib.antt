pub mod Crossing
pub mod Four
