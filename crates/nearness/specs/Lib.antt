pub mod Fullest
pub mod Laws
pub mod Nearest
pub mod Nearness
pub mod Rests
pub mod Searches
