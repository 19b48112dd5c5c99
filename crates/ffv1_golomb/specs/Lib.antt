pub mod Turn
pub mod Reading
pub mod Ahead
pub mod Slice
pub mod Writing
pub mod Gathered
pub mod Law
