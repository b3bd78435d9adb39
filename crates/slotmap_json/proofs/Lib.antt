mod JsonLemmas
pub mod RoundTrips
mod Common
