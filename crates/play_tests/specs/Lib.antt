pub mod Blacks
