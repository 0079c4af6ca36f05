-- The laws that the proofs of signing cite.
pub mod Laws
pub mod Signatures
pub mod Unsigned
