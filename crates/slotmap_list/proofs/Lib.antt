mod Adding
pub mod Callers
mod Common
pub mod Copies
mod Draining
pub mod Elements
mod Ends
mod Keeps
pub mod Looks
mod Moved
mod Moving
pub mod Parts
mod Seen
mod Swapping
pub mod Visiting
