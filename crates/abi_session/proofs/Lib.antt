-- The laws that the proofs of abi_session cite.
pub mod Carried
pub mod Told
