-- What the lines of an evening file mean, and which of them are refused.
pub mod Letters
pub mod Lines
pub mod Numbers
pub mod Said
pub mod Spelling
pub mod Words
