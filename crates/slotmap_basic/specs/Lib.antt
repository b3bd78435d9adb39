pub mod After
pub mod Drain
pub mod Lends
pub mod Columns
pub mod Odds
pub mod Ahead
pub mod Iter
