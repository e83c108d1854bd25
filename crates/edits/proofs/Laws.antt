-- Laws by subject: one level after the other, and what enter, amend and cancel answer.
pub mod WayLevels
pub mod Settings
pub mod WaySpots
pub mod Changed
pub mod EnterTurns
pub mod CancelTurns
pub mod Ways
pub mod TurnLoops
pub mod Swaps
pub mod Helds
pub mod EditAnswers
pub mod EnterAnswers
pub mod AmendAnswers
pub mod CancelAnswers
pub mod SweptImage
