pub mod lemmas
pub mod Reading
