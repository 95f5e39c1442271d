-- Definitions that only private functions' contracts and proofs cite.
pub mod Cases
pub mod Gathered
pub mod Headers
pub mod Making
pub mod Named
pub mod Pieces
pub mod Surveying
