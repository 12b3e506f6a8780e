pub mod Again
pub mod ComesBack
pub mod Returns
