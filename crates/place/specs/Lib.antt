-- The definitions that the contracts and the laws cite.
pub mod Path
pub mod Noted
