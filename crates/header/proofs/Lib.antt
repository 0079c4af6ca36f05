-- The laws that the proofs of header, and of the crates above it, cite.
pub mod Rows
pub mod Facts
pub mod Alike
pub mod WordApart
pub mod Signatures
pub mod Told
