pub mod Crossing
pub mod Entering
pub mod Gains
pub mod Meeting
