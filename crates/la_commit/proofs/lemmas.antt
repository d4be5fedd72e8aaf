pub mod Listed
pub mod Casting
pub mod Agreeing
