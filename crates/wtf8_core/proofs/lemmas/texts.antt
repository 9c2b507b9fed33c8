pub mod AreWtf8
pub mod LossyTexts
pub mod StdFaults
pub mod WithoutSurrogates
