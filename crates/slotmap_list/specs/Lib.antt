pub mod Additions
pub mod Drain
pub mod Kept
pub mod Lends
pub mod ListPlaces
pub mod Refused
pub mod Retain
pub mod Sequence
