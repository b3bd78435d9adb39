-- Maps that are read from a list of slots, and lists that maps are written as.
pub mod AtKeysLemmas
pub mod StartLemmas
pub mod StartStack
pub mod StartFits
pub mod ReadsAsLemmas
pub mod WrittenLemmas
pub mod WrittenClones
