pub mod Votes
pub mod Outcomes
pub mod Stages
pub mod Instances
pub mod Laws
