pub mod Drain
pub mod Heap
pub mod Inverse
pub mod Lends
pub mod Listed
pub mod Retain
pub mod Schedule
pub mod Timed
