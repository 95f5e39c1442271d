-- Definitions that only private functions' contracts and proofs cite.
pub mod Sites
pub mod Taking
pub mod Making
pub mod Renaming
pub mod Writing
pub mod Drafting
pub mod Judging
pub mod Laying
pub mod Known
pub mod Ready
pub mod Updating
pub mod Outline
