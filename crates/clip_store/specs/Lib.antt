pub mod Clip
pub mod Loading
pub mod Library
pub mod Readying
pub mod Blend
pub mod Pictures
pub mod Render
