pub mod Fault
pub mod Name
pub mod Same
