pub mod Calls
pub mod Held
pub mod Holding
pub mod Lending
pub mod Side
pub mod SideCalls
pub mod Status
