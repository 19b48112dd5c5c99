pub mod Desk
pub mod Was
pub mod Alone
