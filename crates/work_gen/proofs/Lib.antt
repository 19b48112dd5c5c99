pub mod Drawing
pub mod Giving
pub mod Short
