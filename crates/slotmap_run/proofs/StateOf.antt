-- Each content has a state that fits it.
use Rattle.std.specs.FinMap as map
use Rattle.std.specs.FinSet as set
use Rattle.std.proofs.Common.{◌≡◌, ◌||◌}
use Rattle.slotmap_run.proofs.{SetCounts.all_keys, SetCounts.contains-all_keys, Fits.used_same, Laws.IsGood}
use Rattle.slotmap_core.proofs.Common.{Key, Content, IsContent, places, State, retired, Fits, keys_total, exact_keys, in_retired, Bool, arith}

module _ {V : Type 0} (reuses : Bool) (c : Content V) (ok : IsContent reuses c) where
  -- its keys are all that was issued, and nothing is owed
  abbrev pub first_state : State V
  first_state = record { live = c.live; detached = c.detached; issued = all_keys c.live c.detached c.retired; peak = places c; promised = 0 }

  issued : (k : Key) → set.contains first_state.issued k ≡ (map.contains_key c.live k || (set.contains c.detached k || set.contains c.retired k))
  issued k = contains-all_keys c.live c.detached c.retired k

  pub first_fits : Fits first_state c
  first_fits =
      let same = set.same_set keys_total exact_keys (retired first_state) c.retired (λ k. grind (arith, in_retired first_state k, issued k, ok.last k, ok.not_standing_and_retired k)) in
      grind (arith, issued, ok.within, ok.not_used_and_vacant, ok.apart)

  pub first_good : IsGood first_state
  first_good = grind (arith, issued, ok.not_live_and_detached, used_same first_state c first_fits, ok.limit)
