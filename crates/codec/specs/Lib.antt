pub mod Bounds
pub mod Grouping
pub mod Laws
pub mod Places
pub mod Records
pub mod RefusalText
pub mod Requests
pub mod Schedule
