pub mod Pasted
pub mod Planes
