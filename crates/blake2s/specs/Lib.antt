-- What the contracts of blake2s cite.
pub mod Rfc7693
pub mod Words
pub mod Parts
pub mod Theorems
