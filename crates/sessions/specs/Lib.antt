-- What the contracts of installer and the theorems of sessions cite.
pub mod Record
pub mod Reply
pub mod Calls
pub mod Operations
pub mod Run
