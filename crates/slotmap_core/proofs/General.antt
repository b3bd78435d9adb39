-- Keys, finite maps and lists, whatever they are used for.
pub mod KeyLemmas
pub mod Maps
pub mod MapLaws
pub mod GatherLemmas
pub mod ListLemmas
pub mod Positions
pub mod ListingLemmas
pub mod OwnedIterLemmas
pub mod Odd
