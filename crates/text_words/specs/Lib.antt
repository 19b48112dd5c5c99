pub mod Blanks
pub mod Number
pub mod Timecode
pub mod Law
