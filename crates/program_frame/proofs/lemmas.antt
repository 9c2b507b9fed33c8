pub mod Pieces
pub mod Results
