pub mod Refusals
pub mod Halves
