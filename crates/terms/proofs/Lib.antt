pub mod Checking
pub mod Dividing
pub mod Filling
pub mod Serving
pub mod Noticing
