pub mod Faults
pub mod Bids
pub mod Award
pub mod Calls
pub mod Rows
pub mod Handing
pub mod Rivals
pub mod Books
