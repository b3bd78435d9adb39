-- A map with no key: slot 0 alone.
use Rattle.std.proofs.Common.{◌∷◌, ⊎_elim, ℕ, List, [], arith}
use Rattle.slotmap_core.proofs.Common.{at_push, IsStacked-sentinel, live-sentinel}
use Rattle.slotmap_hop.specs.Slots.{Slot, SingleState, Empty, all_links, IsSound}
use Rattle.slotmap_hop.specs.Links.{is_front, NamesApart, links_at, vacant_at, end_at, ListsOnce, NamesEnds}
use Rattle.slotmap_hop.proofs.Circle.{shut}

abbrev pub sentinel_alone : (V : Type 0) → List (Slot V)
sentinel_alone V = Empty SingleState 0 0 0 ∷ []

module _ (V : Type 0) where
  listed-new : ListsOnce (is_front (vacant_at (all_links (sentinel_alone V)))) []
  listed-new x = grind arith

  ends-new : NamesEnds (vacant_at (all_links (sentinel_alone V))) (end_at (all_links (sentinel_alone V)))
  ends-new x is = grind arith

  apart-new : (x : ℕ) → NamesApart x (links_at (all_links (sentinel_alone V)) x)
  apart-new x = grind arith

  pub IsSound-new : IsSound (sentinel_alone V) 0 0
  IsSound-new = grind (arith, shut, listed-new, ends-new, apart-new, ⊎_elim, at_push, live-sentinel, IsStacked-sentinel)
