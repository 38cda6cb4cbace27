pub mod Lists
pub mod Counts
pub mod Graphs
pub mod Closures
pub mod Labels
pub mod Theorems
