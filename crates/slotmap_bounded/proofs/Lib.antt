pub mod Alone
mod Bounds
pub mod Changed
pub mod Counts
pub mod Indices
pub mod Linking
pub mod MapKeys
pub mod Mapped
pub mod Results
pub mod Shown
