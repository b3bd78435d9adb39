-- What a loop over the live keys of a map knows of those ahead of it.
use Rattle.std.specs.Prelude.{◌≡◌, ◌+◌, ◌%◌, ◌≤◌, ℕ, List, length, get_or}
use Rattle.slotmap_core.specs.Words.{Key, Content, IsLive, places}
use Rattle.slotmap_basic.specs.Odds.{IsAhead}
use Rattle.slotmap_basic.specs.declared.columns.odds.OddCursor.{OddCursor}

-- The cursor knows the live keys from its index on: these are at the odd ones of some versions, and it says which of them are ahead
pub record KnowsLiveKeys {P : Type 0} (c : Content P) (cursor : OddCursor) : Type 0 where
  pub versions : List ℕ
  pub all : length versions ≡ places c + 1
  pub live : (k : Key) → IsLive c k → cursor.index ≤ k.index → get_or versions k.index 0 % 2 ≡ 1
  pub odd : (i : ℕ) → cursor.index ≤ i → get_or versions i 0 % 2 ≡ 1 → (k : Key) × IsLive c k × (k.index ≡ i)
  pub ahead : IsAhead versions cursor.run_end cursor.end cursor.index cursor.bits
