-- Laws by subject.
pub mod Answers
pub mod Asked
pub mod Blocks
pub mod Buffers
pub mod Orders
pub mod Output
pub mod Puts
pub mod Steps
