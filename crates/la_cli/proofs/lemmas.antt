pub mod GivenNumbers
pub mod Faultless
pub mod Entered
