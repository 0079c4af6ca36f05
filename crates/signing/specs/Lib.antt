-- What the contracts of signing cite.
pub mod Digests
pub mod Places
pub mod Theorems
