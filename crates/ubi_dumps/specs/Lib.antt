pub mod Asked
pub mod Ended
pub mod FileAnswers
pub mod Lines
pub mod Read
