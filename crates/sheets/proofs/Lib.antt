pub mod BigEndian
pub mod Records
pub mod Fields
pub mod Whole
pub mod Places
pub mod Again
