-- Definitions that only private functions' contracts and proofs cite.
pub mod Formatted
pub mod Pictured
