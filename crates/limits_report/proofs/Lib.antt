pub mod Joining
pub mod LeftOut
pub mod OneNearness
pub mod OneText
pub mod EachText
pub mod TextRules
