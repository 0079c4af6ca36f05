-- What the contracts of octets cite.
pub mod Read
pub mod Put
pub mod Rounding
pub mod Theorems
