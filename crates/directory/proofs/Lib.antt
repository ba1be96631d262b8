pub mod Ranks
pub mod Lookups
pub mod Attempts
