pub mod Turning
pub mod Carrying
