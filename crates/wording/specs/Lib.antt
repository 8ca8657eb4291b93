-- The definitions that contracts cite: text, and what is said of a report.
pub mod Text
pub mod Words
