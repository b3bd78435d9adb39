-- What a primary map holds, and what its calls do to it.
pub mod ContentLemmas
pub mod StepLemmas
pub mod CloneLemmas
pub mod LeaveLemmas
pub mod IndexLemmas
pub mod SweepLemmas
pub mod OrderLemmas
pub mod DrainingLemmas
pub mod StandsLemmas
pub mod Retired
pub mod UndoLemmas
