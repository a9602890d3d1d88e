pub mod FewPeriods
pub mod Lists
pub mod Tests
pub mod Values
pub mod EachTable
pub mod Outcomes
