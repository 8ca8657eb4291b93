-- The laws of one step on words: Ruled. The same on the words of trees: Ends, TreeStep.
pub mod Ruled
pub mod Ends
pub mod TreeStep
