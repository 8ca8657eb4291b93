-- What the proofs of several functions use, and what callers cite.
pub mod Skips
pub mod Trees
pub mod Stands
pub mod Contexts
pub mod Parts
pub mod Writes
mod Examples
