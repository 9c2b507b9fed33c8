pub mod Complete
pub mod Continuations
pub mod FaultIndices
pub mod FirstErr
pub mod LossyReadings
pub mod Reading
pub mod Sound
