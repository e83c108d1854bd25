-- Laws by subject: the visit's steps, its rows, and what the calls answer.
pub mod Visits
pub mod Rows
pub mod Chunked
pub mod Tours
pub mod Wholes
pub mod Tallies
pub mod Answers
pub mod Replies
pub mod Descents
pub mod Shown
