pub mod Knowing
pub mod Built
pub mod FormedPart
pub mod Formed
