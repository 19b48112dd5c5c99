pub mod FaultPlan
pub mod FileList
pub mod Outside
pub mod Pieces
pub mod Seen
pub mod Stream
