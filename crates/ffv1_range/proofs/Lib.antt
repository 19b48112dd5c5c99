pub mod Stream
pub mod Part
pub mod Tables
pub mod Numbers
pub mod Symbols
pub mod Steps
