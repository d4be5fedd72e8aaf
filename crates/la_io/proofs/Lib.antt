pub mod lemmas
pub mod Taken
pub mod Told
pub mod Adding
pub mod Parts
pub mod Sources
