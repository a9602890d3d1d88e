pub mod ServeText
pub mod Whole
pub mod Handing
pub mod Dialogue
pub mod Answered
pub mod Rooms
