pub mod Forms
pub mod Renamed
pub mod Slashes
