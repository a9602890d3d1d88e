-- What the laws of the limits are proved by: nothing here has to be read to know what the limits
-- say.
pub mod Broken
pub mod Decisions
pub mod Growth
pub mod LookBack
pub mod Parts
pub mod Splitting
pub mod SumRule
pub mod TableRules
pub mod Tests
pub mod Truths
pub mod Windows
pub mod YearRule
