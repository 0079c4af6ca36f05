-- What the contracts of sha256 cite.
pub mod Fips180
pub mod Words
pub mod Theorems
