-- The laws that the proofs of octets, and of the crates above it, cite.
pub mod Laws
pub mod Rounding
pub mod Splice
pub mod Numbers
