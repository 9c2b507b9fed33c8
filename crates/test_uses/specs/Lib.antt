pub mod Matches
pub mod TextsBetween
