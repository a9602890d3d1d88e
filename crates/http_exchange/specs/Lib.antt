pub mod Handler
pub mod Body
pub mod Final
pub mod Exchange
pub mod Receiving
