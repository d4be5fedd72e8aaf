pub mod Words
pub mod Faults
pub mod Calls
pub mod Asking
pub mod Names
pub mod Ends
pub mod Options
