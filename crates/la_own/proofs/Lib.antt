mod Tags
mod Words
mod Reading
pub mod lemmas
