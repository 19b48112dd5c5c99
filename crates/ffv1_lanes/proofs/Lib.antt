pub mod Masks
pub mod Sixteen
