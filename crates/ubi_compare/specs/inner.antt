-- Definitions that only private functions' contracts and proofs cite.
pub mod Found
pub mod Ranges
pub mod Sides
pub mod Texts
