pub mod Callers
mod Common
mod Fewer
mod LiveOnly
mod Spawned
mod Spawning
mod TableCount
