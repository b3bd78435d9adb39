-- Calls for several keys: closures that are called for each key, and values under several keys at once.
pub mod VisitLemmas
pub mod KeyedVisits
pub mod RetainLemmas
pub mod SeveralLemmas
pub mod DisjointLemmas
pub mod ReplaceLemmas
