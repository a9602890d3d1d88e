pub mod Answers
pub mod Requests
pub mod Reports
pub mod Count
pub mod Laws
pub mod Schedules
pub mod Lines
