pub mod Finding
pub mod Fitting
pub mod Moving
pub mod Naming
pub mod Awarding
