pub mod ReadBooks
pub mod Faultless
pub mod Utf8Texts
pub mod StaysTyped
pub mod TypedRows
pub mod Loads
pub mod Parting
