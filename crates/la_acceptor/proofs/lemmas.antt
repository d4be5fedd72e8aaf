pub mod Accepting
pub mod Theorems
