pub mod Entries
pub mod Pieces
pub mod Steps
