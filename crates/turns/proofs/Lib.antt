-- The laws of runs on words: Runs. The same on the words of trees: TreeRun.
pub mod Runs
pub mod TreeRun
