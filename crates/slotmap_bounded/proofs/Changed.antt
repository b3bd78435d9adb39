-- What is under each key of a map in which one value is changed.
use Rattle.std.proofs.Common.{◌≡◌, ◌≢◌, true, Option, Some, None, is_some, refl, ap, ◌∙◌, inl, inr}
use Rattle.std.specs.Option.{option_map}
use Rattle.slotmap.specs.Words.{Key, key_cmp}
use Rattle.slotmap.proofs.Callers.{get-insert_here, get-insert_other, same_or_other}
use Rattle.slotmap_bounded.specs.Changed.{changed, changed_in}
use Rattle.std.specs.FinMap as map

module _ {V : Type 0} (m : map.FinMap key_cmp V) (k : Key) (f : V → V) where
  other_in : (o : Option V) (q : Key) → q ≢ k → map.get (changed_in m k o f) q ≡ map.get m q
  other_in None q other = refl
  other_in (Some v) q other = get-insert_other m k (f v) q other

  here_in : (o : Option V) → map.get m k ≡ o → map.get (changed_in m k o f) k ≡ option_map f o
  here_in None is = is
  here_in (Some v) is = get-insert_here m k (f v)

  pub changed_other : (q : Key) → q ≢ k → map.get (changed m k f) q ≡ map.get m q
  changed_other q other = other_in (map.get m k) q other

  pub changed_here : map.get (changed m k f) k ≡ option_map f (map.get m k)
  changed_here = here_in (map.get m k) refl

  module _ {X : Type 0} (P : Option V → X) where
    -- what the change leaves as it is
    pub changed_keeps : ((v : V) → P (Some (f v)) ≡ P (Some v)) → (q : Key) → P (map.get (changed m k f) q) ≡ P (map.get m q)
    changed_keeps same q = elim (same_or_other q k) [
      | inl is ↦ rw is (ap P changed_here ∙ kept (map.get m k))
      | inr other ↦ ap P (changed_other q other)
    ]
      where
        kept : (o : Option V) → P (option_map f o) ≡ P o
        kept None = refl
        kept (Some v) = same v

    -- and what it makes of a value that is there
    pub changed_gives : (g : X → X) → ((v : V) → P (Some (f v)) ≡ g (P (Some v))) → map.contains_key m k ≡ true → P (map.get (changed m k f) k) ≡ g (P (map.get m k))
    changed_gives g gives live = ap P changed_here ∙ by (map.get m k) live
      where
        by : (o : Option V) → is_some o ≡ true → P (option_map f o) ≡ g (P o)
        by None is = absurd (cc)
        by (Some v) is = gives v
