-- The laws of sessions. The proofs of installer, abi_session and thimmorel cite those of Facts, Operations and Settled.
pub mod Facts
pub mod Operations
pub mod Slot
pub mod Phases
pub mod Allowed
pub mod Steps
pub mod Fills
pub mod Kept
pub mod Cuts
pub mod Landing
pub mod Settled
