mod Counting
pub mod Fronts
pub mod Lines
pub mod Serving
