-- The definitions that the contracts cite, by subject.
pub mod Report
pub mod Judged
pub mod Accepted
pub mod EvaluatorReport
pub mod RewriterReport
pub mod Calls
pub mod Demanded
