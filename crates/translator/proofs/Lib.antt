-- Laws of rules in a program's bytes, and what an accepted program gives.
pub mod Laws
pub mod Counts
pub mod Accepted
pub mod Given
