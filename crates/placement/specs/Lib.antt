pub mod Blocks
pub mod Labels
pub mod Chunks
pub mod Place
pub mod Decode
pub mod Kinds
pub mod Maps
