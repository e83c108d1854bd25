pub mod Answers
pub mod Asked
pub mod Failure
pub mod Output
pub mod Put
pub mod Table
