pub mod Items
pub mod SecondVotes
pub mod Telling
pub mod Told
pub mod Stepping
pub mod Tests
pub mod Still
