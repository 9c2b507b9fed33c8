pub mod Options
pub mod Styles
pub mod Task
pub mod Fault
pub mod Command
pub mod Common
pub mod Program
