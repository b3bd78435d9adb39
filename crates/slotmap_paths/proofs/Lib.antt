mod Acyclic
pub mod Callers
mod Candidates
mod CutLists
mod Depths
mod EdgeSteps
mod Gathered
mod Orders
mod Routes
mod Settled
