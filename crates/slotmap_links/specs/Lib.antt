pub mod Kept
pub mod Linked
pub mod Lists
pub mod Segment
pub mod Splice
