-- What the contracts of code_header cite.
pub mod Layout
pub mod Tests
pub mod Signers
