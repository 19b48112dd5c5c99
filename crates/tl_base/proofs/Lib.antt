pub mod Remainders
pub mod Medians
