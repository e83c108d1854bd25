pub mod Orders
pub mod Numbers
pub mod Sizes
pub mod Hash
pub mod Powers
pub mod Header
pub mod Parts
