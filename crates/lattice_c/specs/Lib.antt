pub mod Following
pub mod Sealed
pub mod Statuses
pub mod Calls
pub mod Learning
pub mod Numbered
pub mod Starting
pub mod Journals
