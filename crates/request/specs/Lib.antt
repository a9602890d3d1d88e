pub mod Days
pub mod Range
pub mod Subjects
