pub mod Plan
pub mod Failing
pub mod Turns
