pub mod Limits
pub mod Stated
