-- Lists of places, and stacks of vacant indices: the outside view of slots in memory.
pub mod PlacesLemmas
pub mod PlaceCount
pub mod StackLemmas
pub mod PlaceClones
pub mod InOrderLemmas
