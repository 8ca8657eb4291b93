-- Definitions that the contracts cite.
pub mod Wrote
pub mod CallRules
