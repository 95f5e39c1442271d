-- Definitions that only private functions' contracts and proofs cite.
pub mod Asking
pub mod EditLines
pub mod Editing
pub mod Handing
pub mod Streaming
