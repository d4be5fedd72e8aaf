pub mod Lists
pub mod Growing
pub mod Numbering
pub mod Handed
pub mod Stepping
pub mod Together
pub mod Crashing
pub mod JournalSteps
pub mod Restarting
mod Sending
pub mod lemmas
