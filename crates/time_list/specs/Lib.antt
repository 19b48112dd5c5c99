pub mod Parts
pub mod Edits
pub mod Patch
pub mod Apply
pub mod Pieces
pub mod Changes
pub mod Found
