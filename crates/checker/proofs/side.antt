-- The laws of a term's records: the scan, and that it is the theory's.
pub mod Scan
pub mod Theory
