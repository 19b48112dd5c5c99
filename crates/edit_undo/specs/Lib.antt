pub mod History
pub mod Patches
