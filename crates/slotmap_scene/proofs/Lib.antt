mod BelowLoops
mod ByLevel
pub mod Callers
mod ChildLists
mod Climbs
mod Common
mod Descending
mod Families
pub mod KeyLoops
pub mod ListedWorlds
mod Moved
pub mod Offsets
mod Placing
mod Removals
mod SceneSteps
mod Visiting
mod Walking
pub mod Worlds
