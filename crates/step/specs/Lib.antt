-- The definitions that the contracts and the laws cite.
pub mod Next
