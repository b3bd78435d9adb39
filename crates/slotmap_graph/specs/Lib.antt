pub mod Lends
pub mod TopologicalOrder
pub mod Parts
pub mod Search
pub mod Threads
