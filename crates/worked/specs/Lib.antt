pub mod Drawn
pub mod Brought
pub mod Samples
pub mod WorkedExamples
