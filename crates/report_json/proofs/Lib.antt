pub mod EachJson
pub mod OneJson
pub mod OwnSections
pub mod Plain
pub mod PlainBoard
pub mod PlainCount
pub mod Rows
