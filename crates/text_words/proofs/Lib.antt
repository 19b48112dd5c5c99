pub mod Digits
pub mod Utf8
pub mod Extending
pub mod Writing
pub mod Trimming
pub mod Lining
pub mod Splitting
pub mod Reading
