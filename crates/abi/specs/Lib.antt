-- What the contracts of abi, and of the exported calls, cite.
pub mod Inputs
pub mod Answers
pub mod Places
pub mod Headers
pub mod Loaders
pub mod Older
pub mod Theorems
