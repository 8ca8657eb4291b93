-- What the checker's and the translator's answers say of the own list.
mod Answers
