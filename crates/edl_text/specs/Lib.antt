pub mod Row
pub mod Line
pub mod List
pub mod Names
pub mod Writing
pub mod Law
pub mod Timed
pub mod Fault
