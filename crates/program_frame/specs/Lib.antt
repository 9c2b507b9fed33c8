pub mod Fault
pub mod Files
pub mod Marked
pub mod Written
pub mod Os
pub mod Strings
pub mod Words
pub mod Ended
