pub mod Order
pub mod Reading
pub mod Area
pub mod Slice
pub mod Room
pub mod Header
pub mod Cells
pub mod Writing
