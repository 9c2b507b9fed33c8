pub mod Groups
pub mod OneList
pub mod PartUnits
pub mod Runs
