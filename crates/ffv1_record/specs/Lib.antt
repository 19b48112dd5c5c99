pub mod Tables
pub mod Parameters
pub mod Reading
pub mod Spelling
pub mod Sink
pub mod Suits
pub mod Default
