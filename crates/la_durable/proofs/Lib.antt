pub mod lemmas
pub mod Heads
pub mod Acting
pub mod Naming
pub mod Lines
pub mod Restarts
pub mod StateLines
