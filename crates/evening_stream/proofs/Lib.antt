pub mod Feeding
pub mod Clipping
pub mod Cutting
