pub mod Numbers
pub mod Rendered
pub mod Ends
pub mod Stop
pub mod Puts
