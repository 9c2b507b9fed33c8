pub mod AsFunction
pub mod Cuts
pub mod FirstAndLast
pub mod Joins
pub mod OneToOne
pub mod PrefixTests
pub mod PrefixesAndSuffixes
