-- What the contracts of loader cite.
pub mod Check
pub mod Digest
pub mod Choice
pub mod Theorems
