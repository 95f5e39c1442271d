pub mod Alike
pub mod DifferencesWhole
pub mod GeometriesWhole
pub mod ListedWhole
pub mod OneLine
pub mod Prelude
