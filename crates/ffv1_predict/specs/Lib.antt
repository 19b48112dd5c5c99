pub mod Near
pub mod Border
