pub mod Known
pub mod Parts
pub mod Grows
pub mod Tries
