pub mod Around
pub mod Compiling
pub mod UnitLetters
pub mod TextHits
pub mod MixedSets
