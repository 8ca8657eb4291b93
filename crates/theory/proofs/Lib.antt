-- Laws and theorems over the definitions, by subject.
-- numbers, trees and words
pub mod Tests
pub mod Lists
pub mod Active
pub mod Readability
pub mod Filling
pub mod Shape
pub mod Place
-- what the rules do at a root, and steps in a row
pub mod Reach
pub mod Roots
pub mod RootsHold
pub mod OverlapMeaning
pub mod Table
-- the paper's own definitions
pub mod PaperEvaluation
pub mod PaperRewriting
pub mod PaperTranslation
pub mod Separate
-- the two engines
pub mod BudgetIsCut
pub mod Levels
pub mod Sound
pub mod Agree
pub mod Demand3
-- bytes
pub mod RecordRead
pub mod Checked
pub mod SidesGive
pub mod RecordsOfTerms
pub mod SidesRead
pub mod SidesRefuse
pub mod EndRecord
pub mod RulesApart
pub mod ProgramRead
pub mod AcceptedExactly
pub mod Accepted
pub mod EnoughFuel
pub mod RecordsStand
pub mod Refused
pub mod RefusalTen
pub mod RefusalSeventeen
pub mod AcceptedProper
-- how large things get
pub mod Bounds
pub mod Exceptions
-- the public calls, from bytes
pub mod PublicCalls
pub mod AnsweredExactly
pub mod Refusals
pub mod Demand2
pub mod CountedSteps
pub mod ReadOff
pub mod Sums
pub mod Examples
-- what the built-in functions give
pub mod PaperAnswered
pub mod Equality
pub mod ExactCost
pub mod Allowances
pub mod Reached
