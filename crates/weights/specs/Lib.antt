pub mod Scales
pub mod Amounts
pub mod PairLaws
pub mod Linear
pub mod Weighings
