pub mod Own
pub mod Refusals
