-- What a secondary map holds: its pairs, by their indices and by their keys.
pub mod AtIndexLemmas
pub mod SecondaryLemmas
pub mod KeyedLemmas
pub mod OtherKeyLemmas
pub mod SecondaryDrains
pub mod SecondaryEqualLemmas
pub mod SecondaryExtendLemmas
pub mod StoppedExtends
pub mod SecondaryWrittenLemmas
pub mod SecondaryClonesLemmas
