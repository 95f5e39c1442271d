-- Definitions that only private functions' contracts and proofs cite.
pub mod Asking
pub mod Built
pub mod Editing
pub mod Extracting
pub mod Filling
pub mod Folder
pub mod Gathering
pub mod Planning
pub mod Replaced
