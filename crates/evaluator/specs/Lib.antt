-- The definitions that the contracts and the laws cite.
pub mod Values
pub mod Places
pub mod Rows
pub mod Fitting
pub mod Evaluation
pub mod Outcomes
