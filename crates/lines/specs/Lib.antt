-- The definitions that contracts cite: digits, and fields.
pub mod Hex
pub mod Fields
