pub mod FirstChunk
pub mod FirstPiece
pub mod LastPiece
