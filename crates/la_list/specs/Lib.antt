pub mod Orders
pub mod IdTests
pub mod ListBytes
pub mod Refusals
pub mod Lists
pub mod Chains
pub mod ListLaws
pub mod LatestLaw
