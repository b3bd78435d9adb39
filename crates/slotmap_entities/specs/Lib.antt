pub mod Lends
pub mod Spawning
pub mod World
