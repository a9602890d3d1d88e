pub mod Found
pub mod Typed
pub mod Loaded
pub mod Reading
