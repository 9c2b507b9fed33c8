pub mod ComputedTests
pub mod Lanes
pub mod PairBits
pub mod ScannedIsEncoded
pub mod Windows
