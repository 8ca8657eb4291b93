-- Laws of the writers.
pub mod Writes
pub mod RuleWords
pub mod ExceptionRules
pub mod CallRules
