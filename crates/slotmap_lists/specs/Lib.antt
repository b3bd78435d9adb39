pub mod Kept
pub mod Lends
pub mod Places
pub mod Refused
pub mod Sequences
