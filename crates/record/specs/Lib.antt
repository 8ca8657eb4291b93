-- The definitions that contracts cite.
pub mod Kind
pub mod Record
