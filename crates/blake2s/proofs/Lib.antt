-- What several proofs of blake2s cite.
pub mod Halves
pub mod Laws
pub mod InPlace
