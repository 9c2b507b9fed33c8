pub mod Handle
pub mod Steps
pub mod TurnsLemmas
