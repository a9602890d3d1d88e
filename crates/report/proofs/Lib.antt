pub mod BoardLemmas
pub mod EachOrder
pub mod EachText
pub mod ExceedanceRows
pub mod FewSegments
pub mod InOrder
pub mod OneOrder
pub mod OneText
