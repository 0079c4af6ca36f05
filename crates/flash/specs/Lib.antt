-- What the contracts of flash cite.
pub mod Flash
pub mod Operation
pub mod Interrupted
