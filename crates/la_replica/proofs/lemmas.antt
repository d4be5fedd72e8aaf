pub mod Furthering
pub mod Growing
pub mod Still
pub mod Carrying
pub mod Alike
pub mod Rebasing
pub mod Parcelling
