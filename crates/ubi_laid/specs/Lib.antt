pub mod Laid
pub mod LaidIn
pub mod Parts
pub mod Pieces
pub mod Laws
