-- The laws that the proofs of installer cite.
pub mod Numbers
pub mod Parts
