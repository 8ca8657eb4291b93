-- The definitions that the contract and the law cite.
pub mod Read
pub mod Meaning
