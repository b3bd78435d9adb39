mod Adjacent
pub mod Callers
mod Common
pub mod Cycles
mod GraphSteps
mod Indices
mod Searches
mod Thinned
mod Threaded
mod TopologicalOrders
