-- Laws of the right side: Laws. A step's three writes together: Step. The right side over trees: Filled.
pub mod Laws
pub mod Step
pub mod Filled
