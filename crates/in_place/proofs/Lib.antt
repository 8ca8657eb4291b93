-- What rules of variables in order make: Variables. The test of a value: Values. Both, as changes of one word: Changes. Steps in place, one
-- after another: Passes. The two shapes of a right side, by its words: Sides.
pub mod Variables
pub mod Values
pub mod Changes
pub mod Passes
pub mod Sides
