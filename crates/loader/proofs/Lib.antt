-- The laws that the proofs of loader cite.
pub mod Chosen
pub mod Rows
pub mod Hashes
pub mod Numbered
pub mod Accepted
pub mod Runs
pub mod OneCode
