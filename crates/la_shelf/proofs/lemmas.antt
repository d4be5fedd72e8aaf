pub mod NewUpdates
pub mod Views
pub mod Rows
pub mod Runs
pub mod Orders
pub mod Fulls
