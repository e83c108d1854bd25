pub mod Walk
pub mod Check
pub mod Make
pub mod Calls
pub mod Refusals
pub mod Promise
