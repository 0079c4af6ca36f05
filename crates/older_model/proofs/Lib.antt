-- The laws that the proofs of older_model cite.
pub mod Laws
pub mod Signers
pub mod Headers
pub mod Signed
pub mod Answers
pub mod Hashes
pub mod Rows
pub mod Refused
pub mod Accepted
pub mod OneCode
