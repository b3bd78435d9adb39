-- What a closed handle of a side table reads as, and which keys a put leaves out. For this crate alone.
use Rattle.std.specs.FinMap as map
use Rattle.std.proofs.Common.{◌≡◌, ℕ, Bool, true, false, not, Option, Some, None, is_some, nat_cmp, if◌then◌else◌, refl, sym, subst, ap, ◌∙◌, arith}
use Rattle.slotmap_core.specs.Words.{Key, Pairs, ffi, get, contains_key, put, remove, entry, has_entry, value_at}
use Rattle.slotmap_core.proofs.SecondaryMaps.{SecondaryLemmas.put_bound, AtIndexLemmas.in_own}
use Rattle.slotmap_secondary.specs.Content.{SideContent}
use Rattle.slotmap_c.specs.{Side.no_side, SideCalls.numbered}
use lib.Dec.{T}

module _ (s : SideContent ℕ) (is : s ≡ no_side) where
  pub no_value : (k : Key) → get s.pairs k ≡ None
  no_value k = ap (λ (c : SideContent ℕ). get c.pairs k) is ∙ ap (value_at k.version) (map.get-empty {X = ℕ × ℕ} nat_cmp k.index)

  pub no_keys : 0 ≡ map.len s.pairs
  no_keys = sym (ap (λ (c : SideContent ℕ). map.len c.pairs) is ∙ map.len-empty nat_cmp (ℕ × ℕ))

  pub not_there : (k : Key) → false ≡ contains_key s.pairs k
  not_there k = sym (ap is_some (no_value k))

  pub none_taken : (t : SideContent ℕ) → t ≡ no_side → (k : Key) → t ≡ record s { pairs = remove s.pairs k }
  none_taken t same k =
      same ∙ sym is ∙ ap (λ (b : Bool). record s { pairs = if b then map.remove s.pairs k.index else s.pairs }) (not_there k)

-- a key that isn't there once it was put has no entry
pub has_no_entry : (m : Pairs ℕ) (k : Key) (v : ℕ) → contains_key (put m k v) k ≡ false → has_entry (entry m k) ≡ false
has_no_entry m k v out = by_entry (has_entry (entry m k)) refl where
  by_entry : (b : Bool) → has_entry (entry m k) ≡ b → has_entry (entry m k) ≡ false
  by_entry true e = absurd (subst (λ (y : Bool). T (not y)) (sym out ∙ ap (λ (n : Pairs ℕ). contains_key n k) (put_bound m k v e) ∙ in_own m k v) tt)
  by_entry false e = e

-- the pair at a key's index, if the key has a value
numbered_found : (i version : ℕ) (o : Option (ℕ × ℕ)) (v : ℕ) → value_at version o ≡ Some v
    → numbered i o ≡ Some (ffi (record { index = i; version = version }), v)
numbered_found i version None v has = grind arith
numbered_found i version (Some p) v has = grind arith

pub pair_numbered : (m : Pairs ℕ) (k : Key) (i v : ℕ) → k.index ≡ i → get m k ≡ Some v → numbered i (map.get m i) ≡ Some (ffi k, v)
pair_numbered m k i v at has = ap (λ j. numbered j (map.get m j)) (sym at) ∙ numbered_found k.index k.version (map.get m k.index) v has
