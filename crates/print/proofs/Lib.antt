pub mod Digits
pub mod Lengths
pub mod Places
pub mod Sinks
