pub mod Arguments
pub mod Items
pub mod Lines
pub mod Passing
pub mod Reading
pub mod Runs
pub mod Values
