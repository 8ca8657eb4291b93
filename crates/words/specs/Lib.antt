pub mod Base
pub mod Terms
pub mod Parts
pub mod Stands
pub mod Contexts
