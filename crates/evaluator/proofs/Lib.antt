-- Over any words: Fits, Bounds, Levels. To the theory's terms: TheoryRows, Among, Chosen, Terms, OnBytes.
mod Paying
mod Fits
mod Bounds
mod Levels
mod TheoryRows
mod Among
mod Chosen
mod Terms
pub mod OnBytes
