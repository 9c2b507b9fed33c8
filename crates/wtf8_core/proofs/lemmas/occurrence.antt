pub mod Boundaries
pub mod Indices
pub mod Wtf8
