pub mod Callers
mod Common
mod Copied
mod Counting
mod Draining
mod DueCounted
mod Found
mod Handles
mod HeapPlaces
mod Heaps
mod Order
pub mod Retained
mod Schedules
mod Seen
mod Sorted
mod TakingDue
mod TakingOut
pub mod Visiting
mod Waits
