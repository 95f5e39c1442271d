pub mod DetectedLines
pub mod GeometryVectors
pub mod InFormat
pub mod ListedLines
pub mod MappedLines
pub mod ShownLines
pub mod Prelude
