pub mod Asked
pub mod Chains
pub mod Parts
pub mod ShownAs
pub mod CountTexts
pub mod LinesTaken
pub mod CallsHonest
pub mod ChecksTaken
