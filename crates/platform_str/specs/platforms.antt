pub mod Unix
pub mod Windows
pub mod Wasm
