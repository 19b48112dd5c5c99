pub mod Flat
pub mod Refused
pub mod Shapes
