pub mod Blend
pub mod Lanes
pub mod Residual
