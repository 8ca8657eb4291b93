-- Steps of the code: Endings, Settled. The answer over trees and programs: Answers, Programs. THE LAW: OnBytes.
pub mod Endings
pub mod Settled
pub mod Answers
pub mod Programs
pub mod OnBytes
