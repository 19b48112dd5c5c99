pub mod Packet
pub mod Cover
pub mod Frame
pub mod Law
pub mod Written
