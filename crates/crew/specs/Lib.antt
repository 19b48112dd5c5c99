pub mod Parts
pub mod Scripts
pub mod Slots
pub mod Joining
