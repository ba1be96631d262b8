-- Lemmas on words, digits and line ends that the proofs of the reader cite.
pub mod Digits
pub mod Lettered
pub mod LineEnd
pub mod Parting
pub mod Spelling
