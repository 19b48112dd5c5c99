pub mod Parity
pub mod Arithmetic
