mod Edited
mod EditTexts
mod EditVectors
mod EditsFit
mod FilledBuffers
mod MaskedBlocks
mod Spared
mod ToldOutcomes
mod Updated
mod Wanted
pub mod Prelude
