-- What a key finds in a secondary map, by its entry.
-- For the crates of maps.
use Rattle.std.proofs.Common.{◌≡◌, ℕ, Option, Some, None, true, false, cond, eqb-true, eq-eqb, refl, ap, ◌∙◌, arith}
use Rattle.std.proofs.lemmas.Map.Lookups.{exact_unsigned}
use Rattle.slotmap_core.specs.Words.{nat_cmp_total, Key, null_key, Pairs, Entry, IsSecondary, is_null, no_entry, occupied, vacant, entry_at, value_at, has_entry, entry, get, bind, put}
use Rattle.slotmap_core.proofs.General.Maps.{get_inserted}
use Rattle.std.specs.FinMap as map

module _ {V : Type 0} where
  -- the value of an entry
  abbrev pub value_of : Entry V → Option V
  value_of no_entry = None
  value_of (occupied v) = Some v
  value_of vacant = None

  pub value_found : (version : ℕ) (o : Option (ℕ × V)) → value_of (entry_at version o) ≡ value_at version o
  value_found version o = grind arith

  -- there is nothing at the null key's index
  pub null_finds_nothing : (m : Pairs V) → IsSecondary m → (k : Key) → is_null k ≡ true → get m k ≡ None
  null_finds_nothing m valid k null = elim (map.get m k.index) as (λ o. map.get m k.index ≡ o → value_at k.version o ≡ None) [
    | None ↦ λ is. refl
    | Some p ↦ λ is. let at = eqb-true k.index null_key.index null in absurd (omega (arith, (valid k.index p is).1))
  ] refl

  -- a key's value is that of its entry
  pub value_of_entry : (m : Pairs V) → IsSecondary m → (k : Key) → value_of (entry m k) ≡ get m k
  value_of_entry m valid k = grind (arith, null_finds_nothing m valid k, value_found k.version (map.get m k.index))

  -- a key that has an entry isn't null
  pub not_null : (m : Pairs V) (k : Key) → has_entry (entry m k) ≡ true → is_null k ≡ false
  not_null m k has = grind arith

  pub put_bound : (m : Pairs V) (k : Key) (v : V) → has_entry (entry m k) ≡ true → put m k v ≡ bind m k v
  put_bound m k v has = grind arith

  pub put_nothing : (m : Pairs V) (k : Key) (v : V) → has_entry (entry m k) ≡ false → put m k v ≡ m
  put_nothing m k v has = grind arith

  pub get_bound : (m : Pairs V) (k : Key) (v : V) → get (bind m k v) k ≡ Some v
  get_bound m k v = ap (value_at k.version) (get_inserted nat_cmp_total exact_unsigned m k.index (k.version, v)) ∙ ap (λ b. cond b (Some v) None) (eq-eqb k.version k.version refl)
