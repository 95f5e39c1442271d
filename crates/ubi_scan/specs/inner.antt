-- Definitions that only private functions' contracts and proofs cite.
pub mod Ahead
pub mod Choice
pub mod Counts
pub mod Pass
