pub mod Working
pub mod Exporting
