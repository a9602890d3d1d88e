pub mod FaultText
pub mod FlightDuty
pub mod Texts
pub mod Verdict
