-- The laws of a term's record by its kind and body.
pub mod Laws
