pub mod Bounded
pub mod Changed
pub mod Indices
pub mod KeyLists
pub mod Lends
pub mod Mapped
