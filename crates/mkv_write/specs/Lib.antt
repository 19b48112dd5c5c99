pub mod Fault
pub mod File
pub mod History
pub mod Keeping
pub mod Law
pub mod Writing
