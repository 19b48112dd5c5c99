pub mod Transition
pub mod DefaultTransition
pub mod Reading
pub mod Writing
pub mod Symbol
pub mod Law
pub mod Position
pub mod Cursor
