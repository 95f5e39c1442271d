-- Definitions that only private functions' contracts and proofs cite.
pub mod Building
pub mod Drafts
pub mod Pieces
pub mod Stored
