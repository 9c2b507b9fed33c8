pub mod AtIndices
pub mod ByValue
pub mod FourBytes
pub mod IllFormedParts
pub mod Lengths
pub mod Overlaps
pub mod Seams
