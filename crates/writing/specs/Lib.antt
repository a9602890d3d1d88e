pub mod Faults
pub mod Beside
pub mod Calls
pub mod Making
pub mod Next
pub mod Commits
pub mod Writing
pub mod Migration
