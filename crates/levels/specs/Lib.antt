pub mod Edit
pub mod Pour
pub mod Shift
pub mod Scan
pub mod Ways
