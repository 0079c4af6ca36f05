-- The laws that the proofs of flash, and of the crates above it, cite.
pub mod Laws
pub mod Interrupted
