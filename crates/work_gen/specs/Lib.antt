pub mod Picture
pub mod Script
pub mod Clip
pub mod Given
pub mod Answer
