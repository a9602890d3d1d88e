pub mod AsciiInstants
pub mod FormLemmas
pub mod DateFacts
pub mod WrittenLemmas
pub mod ReadLemmas
pub mod ZoneLemmas
