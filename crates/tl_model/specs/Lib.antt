pub mod Recipe
pub mod Segment
pub mod Edit
pub mod Media
pub mod Cells
pub mod Sound
