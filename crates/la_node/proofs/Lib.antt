pub mod lemmas
pub mod Deciding
mod Refusing
mod Growing
mod Kept
mod LinkRuns
mod Looking
mod SubmittingOnce
mod Participants
mod Voters
mod Returning
pub mod Nodes
pub mod Resuming
