-- The laws that the proofs of writer cite.
pub mod Fields
pub mod Chain
pub mod Taken
pub mod Joined
pub mod Standing
pub mod Files
pub mod Passes
pub mod Answers
pub mod Again
pub mod Sample
