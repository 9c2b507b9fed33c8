pub mod UnitLines
pub mod OneAnswer
pub mod SameWords
pub mod PieceLines
pub mod CommandWords
