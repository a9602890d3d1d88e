pub mod BoardSame
pub mod Alike
pub mod Each
pub mod One
