pub mod Splits
pub mod Printed
pub mod Hearing
pub mod Digits
pub mod OptionLines
pub mod Joining
