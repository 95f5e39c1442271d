pub mod Line
pub mod Words
pub mod Told
pub mod Differences
pub mod Check
pub mod List
pub mod Geometry
pub mod Laws
