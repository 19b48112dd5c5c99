pub mod Numbers
pub mod Vints
pub mod Pieces
pub mod Headers
pub mod Listings
pub mod Scans
pub mod Knowns
pub mod Endings
