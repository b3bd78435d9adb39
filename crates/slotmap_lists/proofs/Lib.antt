mod Arriving
pub mod Callers
mod Changes
mod Clearing
mod Common
mod Copied
mod Ends
mod Listed
mod Moved
mod Opening
mod Relinks
mod Spots
mod Which
mod Written
