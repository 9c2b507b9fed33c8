pub mod Word
pub mod Kinds
pub mod Reading
pub mod ErrorText
pub mod Views
pub mod Joining
