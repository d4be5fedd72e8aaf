pub mod LeastIds
pub mod Majorities
pub mod Growing
pub mod Theorems
