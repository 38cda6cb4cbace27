pub mod Chosen
pub mod Counting
