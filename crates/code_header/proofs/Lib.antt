-- The laws that the crates above code_header cite.
pub mod Facts
