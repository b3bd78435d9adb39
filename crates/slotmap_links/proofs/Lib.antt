pub mod Callers
pub mod Changes
mod Common
pub mod Counts
mod KeptLists
pub mod Linking
pub mod SeenLists
mod Segments
mod Written
