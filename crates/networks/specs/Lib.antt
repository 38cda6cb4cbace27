pub mod Refusals
pub mod Links
pub mod Pricing
pub mod Closures
pub mod Networks
pub mod Opening
pub mod Classes
pub mod Trials
