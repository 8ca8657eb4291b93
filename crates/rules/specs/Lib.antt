-- The definitions that the contracts and the laws cite.
pub mod Matching
pub mod Index
pub mod Stored
pub mod Finding
pub mod Table
pub mod Program
pub mod Usual
pub mod Lists
