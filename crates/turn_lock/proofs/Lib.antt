pub mod Ends
pub mod Fronts
pub mod Keeps
pub mod Passing
pub mod Places
pub mod Rules
pub mod Seen
pub mod Trials
