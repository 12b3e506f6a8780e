pub mod Fits
pub mod Laying
pub mod Lengths
pub mod Lines
pub mod Pieces
pub mod Places
pub mod Sinks
pub mod Texts
