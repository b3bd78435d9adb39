pub mod Components
pub mod Costs
pub mod Deepening
pub mod Depth
pub mod Gathering
pub mod Paths
pub mod Settling
pub mod Searching
