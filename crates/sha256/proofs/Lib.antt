-- What several proofs of sha256 cite.
pub mod Bits
pub mod Rounds
pub mod Bytes
pub mod Padding
