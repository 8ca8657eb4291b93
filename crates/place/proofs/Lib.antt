-- Laws of the path among the words: Path. Of the path noted place by place: Noted. Of a value on it: Quiet. The path among a tree's words: Sites.
pub mod Path
pub mod Noted
pub mod Quiet
pub mod Sites
