-- The laws that callers cite are public.
pub mod Laws
