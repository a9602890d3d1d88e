pub mod CompactTexts
pub mod KeptBack
pub mod InstructionsBack
pub mod ReplyBack
pub mod EachRead
