-- Laws by subject.
pub mod Input
