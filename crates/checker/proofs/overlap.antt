-- The laws of refusal 10: on bytes, on patterns, and that it is the theory's.
pub mod Laws
pub mod Encode
pub mod Theory
