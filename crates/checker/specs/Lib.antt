-- The definitions that contracts cite, by subject. Refusal and Answer have what a caller cites.
pub mod Refusal
pub mod Answer
pub mod Node
pub mod Side
pub mod Declarations
pub mod Program
pub mod Overlap
