-- What the documents say, in the order in which a reader meets it: each file uses only files before it.
-- 1. Programs, and the paper's evaluation (004, definitions 3.1 to 3.4)
pub mod Syntax
pub mod Builtins
pub mod Endings
pub mod Tree
pub mod Overlap
pub mod Proper
pub mod Evaluation
-- 2. Evaluation with document 01's steps and levels
pub mod Cost
pub mod Budget
-- what the built-in functions are to give
pub mod Arithmetic
-- 3. Words, and the translation (004, definition 4.1)
pub mod Words
pub mod Translation
pub mod WellFormed
pub mod Definition41
-- 4. Rewriting (004, definitions 2.1 to 2.4) and the rewriter's turns
pub mod Rewriting
pub mod Turns
-- 5. Bytes, refusals, and what the public calls answer
pub mod Bytes
pub mod Encoding
pub mod Buffers
pub mod Answers
pub mod Demands
pub mod Sums
-- 6. What the built-in functions give and take on numbers
pub mod Allowances
