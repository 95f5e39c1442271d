pub mod Compared
pub mod Differences
pub mod ErrorTexts
pub mod Laws
pub mod inner
