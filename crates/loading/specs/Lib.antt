pub mod Loading
pub mod Reading
pub mod PlanTables
pub mod OutsideTables
pub mod Refusals
