pub mod Always
pub mod Fronts
pub mod Written
pub mod TellingOn
