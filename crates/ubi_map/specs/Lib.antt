pub mod Headers
pub mod Letters
pub mod Map
pub mod Page
pub mod Laws
