pub mod Faults
pub mod Readings
pub mod Sessions
pub mod Tables
pub mod Attended
pub mod Acts
pub mod Prints
pub mod Books
