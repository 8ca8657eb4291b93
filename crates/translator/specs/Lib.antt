-- Definitions that the contracts cite.
pub mod Opened
pub mod Sized
pub mod Listed
pub mod List
pub mod Answered
pub mod Accepted
