pub mod Gaining
pub mod DefaultBytes
pub mod Blending
pub mod PictureTests
pub mod DecodedShape
pub mod Coding
pub mod Lawful
