pub mod Calls
pub mod Contents
pub mod EditLines
pub mod Edits
pub mod inner
