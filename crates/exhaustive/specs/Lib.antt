pub mod Choices
pub mod Records
pub mod Sets
pub mod Trees
pub mod Trials
