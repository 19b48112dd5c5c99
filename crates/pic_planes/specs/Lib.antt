pub mod Shape
pub mod Grid
pub mod Picture
pub mod Bytes
pub mod Lending
pub mod Lends
