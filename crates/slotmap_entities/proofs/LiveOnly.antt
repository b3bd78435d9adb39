-- That only entities have components: what a call does to that.
use Rattle.std.proofs.Common.{◌≡◌, ◌≢◌, ◌⊎◌, Bool, true, false, inl, inr}
use Rattle.slotmap.specs.Words.{Key, Content, IsBeside, Pairs, contains_key}
use Rattle.slotmap.proofs.Callers.{same_or_other, live-remove_other, false_of}
use Rattle.slotmap_entities.specs.World.{OnlyLive}
use Rattle.std.specs.FinMap as map

module _ {E : Type 0} (c : Content E) (has : Key → Bool) (only : OnlyLive c has) where
  -- the table of one kind has no more
  pub own_beside : {C : Type 0} (m : Pairs C) → ((k : Key) → contains_key m k ≡ true → has k ≡ true) → IsBeside c m
  own_beside m own k there = only k (own k there)

  -- a key of no entity has nothing
  pub stale_bare : (k : Key) → map.contains_key c.live k ≡ false → has k ≡ false
  stale_bare k gone = false_of (has k) (λ there. let live = only k there in cc)

  -- a new table of one kind, where all else stays
  pub table_live : {C : Type 0} (m : Pairs C) (now : Key → Bool) → IsBeside c m → ((k : Key) → now k ≡ true → (has k ≡ true) ⊎ (contains_key m k ≡ true)) → OnlyLive c now
  table_live m now beside more k there = elim (more k there) [
    | inl before ↦ only k before
    | inr here ↦ beside k here
  ]

  -- an entity leaves, and its components do
  pub removed_live : (new : Content E) (k : Key) (now : Key → Bool) → new.live ≡ map.remove c.live k → now k ≡ false → ((q : Key) → q ≢ k → now q ≡ has q) → OnlyLive new now
  removed_live new k now is gone others q there = rw is (elim (same_or_other q k) [
    | inl e ↦ absurd (let t = rw e at there in cc)
    | inr other ↦ live-remove_other c.live k q other (only q (rw (others q other) at there))
  ])
