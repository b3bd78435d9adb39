pub mod SlotLemmas
mod SlotGrowth
mod SlotClones
pub mod SettledLemmas
mod FromListLemmas
mod ChangeLemmas
mod Common
