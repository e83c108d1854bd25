-- Laws by subject.
pub mod Round
pub mod Orders
pub mod Sizes
pub mod Numbers
pub mod Over
pub mod Bytes
pub mod Parts
pub mod Headers
pub mod Powers
pub mod Hashes
pub mod HeaderLoops
pub mod HeaderWrites
