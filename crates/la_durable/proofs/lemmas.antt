pub mod OwnLines
pub mod Kept
