pub mod IdOrder
pub mod Sorted
pub mod IdMaps
pub mod Lawful
pub mod Rows
