-- What the contracts of header cite.
pub mod Layout
pub mod Steps
pub mod Table
pub mod Outcome
pub mod Trust
pub mod Alike
pub mod Theorems
