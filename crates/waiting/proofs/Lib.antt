pub mod TakenIn
pub mod WholeLemmas
pub mod HandLemmas
pub mod DialogueLemmas
pub mod AnsweredLemmas
pub mod RoomLemmas
