-- What the contracts of image cite.
pub mod Areas
pub mod Chunks
pub mod Answer
pub mod Check
pub mod Parts
pub mod Difference
pub mod Theorems
