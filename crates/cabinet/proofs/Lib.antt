pub mod Acting
pub mod Going
pub mod Lowest
pub mod Blank
