-- The definitions that the contracts and the laws cite.
pub mod Buffers
pub mod Run
