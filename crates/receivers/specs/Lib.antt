pub mod Rules
pub mod Places
pub mod Tallying
pub mod Tallies
pub mod Keeping
pub mod Writing
