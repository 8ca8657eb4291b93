-- The laws that callers cite are public.
pub mod Callers
pub mod Rules
mod Answer
mod Position
pub mod Errors
pub mod Table
