pub mod Command
pub mod Fault
pub mod Lines
pub mod Output
pub mod Run
pub mod Program
