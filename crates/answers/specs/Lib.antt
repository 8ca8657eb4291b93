-- The definitions that contracts cite.
pub mod Held
pub mod Fields
pub mod Answered
