-- What callers of maps cite, by way of the facade.
pub mod Callers
pub mod SpentLemmas
pub mod RetainCallers
pub mod Walks
pub mod RunCallers
pub mod RemovalCallers
pub mod ToldCallers
pub mod SecondaryCallers
pub mod SecondaryRuns
pub mod SideTables
