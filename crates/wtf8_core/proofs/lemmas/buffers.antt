pub mod Truncated
