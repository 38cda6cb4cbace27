pub mod Numbers
pub mod Layout
pub mod Headers
pub mod Reading
pub mod Writing
pub mod Loading
