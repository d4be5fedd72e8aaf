pub mod Playback
pub mod Starting
pub mod Retelling
pub mod Letters
