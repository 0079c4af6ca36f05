-- What the contracts of abi_session, and of the exported calls, cite.
pub mod Record
pub mod Answers
pub mod Carried
