pub mod CallLines
pub mod Heads
pub mod Nodes
pub mod Errors
pub mod Inputs
pub mod Restarts
pub mod Still
pub mod NodeStates
