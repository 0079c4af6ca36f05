-- What the contracts of older_model cite.
pub mod Steps
pub mod Check
pub mod Digest
pub mod Theorems
