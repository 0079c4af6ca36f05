-- The laws that the proofs of image, and of the crates above it, cite.
pub mod Hashes
pub mod Facts
pub mod Alike
pub mod Erased
pub mod Parts
pub mod Signed
pub mod Difference
pub mod OneCode
pub mod Signatures
