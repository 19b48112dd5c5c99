pub mod Packets
pub mod Parts
pub mod Timeline
pub mod Endings
