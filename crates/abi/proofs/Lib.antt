-- The laws that the proofs of abi cite.
pub mod Numbers
pub mod Told
pub mod OlderWords
