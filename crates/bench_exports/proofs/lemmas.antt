pub mod Filling
pub mod Room
pub mod FewPieces
pub mod FewChunks
pub mod Counts
