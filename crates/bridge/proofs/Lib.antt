-- Laws by subject. Reports has those about a report, Calls those about the public calls' own reports, ThroughDoor those about the hosts' calls;
-- TranslatorWords, EvaluatorAnswers and RewriterAnswers cite the crates below that write the words and run.
mod Judging
mod Allowing
mod Lending
mod TranslatorWords
mod EvaluatorAnswers
mod RewriterAnswers
mod Telling
pub mod Reports
pub mod Calls
pub mod ThroughDoor
