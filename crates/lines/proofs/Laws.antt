-- Laws by subject.
pub mod Pieces
pub mod Words
pub mod Reading
pub mod Writing
pub mod Steps
pub mod Back
