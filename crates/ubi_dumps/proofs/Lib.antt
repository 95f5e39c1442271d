pub mod Ended
pub mod Found
pub mod KeptPart
pub mod Outcomes
pub mod ToldPlaces
pub mod ViewVectors
pub mod Prelude
