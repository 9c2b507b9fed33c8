pub mod CommandLines
pub mod WrittenOut
pub mod FirstHit
pub mod LinesRead
pub mod JoinedWords
pub mod SameGlobs
