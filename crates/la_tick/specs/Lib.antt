pub mod Paces
pub mod Ticks
pub mod Notes
