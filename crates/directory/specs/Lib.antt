pub mod Codes
pub mod Entries
pub mod Promise
pub mod Ranks
