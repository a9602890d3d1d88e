pub mod Keys
pub mod InstructionSame
pub mod Instructions
pub mod SeatSame
pub mod Texts
