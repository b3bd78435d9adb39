-- A content without its values, which is one with the same value for each: what each change of a map does to it.
use Rattle.std.proofs.Common.{◌≡◌, ◌≤◌, ℕ, true, Option, Some, None, is_some, refl, sym, ap, ◌∙◌, arith}
use Rattle.slotmap.specs.Words.{Key, key_cmp, Content, IsLive, IsNew, Inserts, Removes, Keeps, Leaves, MakesRoom, IsCopy, IsCloneBy, without_values, with_value, used}
use Rattle.slotmap.specs.KeysAlone.{keys_of}
use Rattle.slotmap.proofs.Callers.{clone_copies, contains-keys_of, len-keys_of}
use Rattle.slotmap_bounded.specs.{Bounded.bound, Bounded.space, Mapped.map_values}
use Rattle.slotmap_bounded.proofs.Mapped.{mapped-new, mapped-inserts, mapped-removes, mapped-keeps, mapped-leaves, mapped-room, mapped-clones, mapped-written, get-mapped, len-mapped, some-mapped}
use Rattle.slotmap_bounded.proofs.Mapped.{is_mapped}
use Rattle.std.specs.FinMap as map
use Rattle.std.specs.FinSet as set

-- as many slots are used, and there is no less room
pub bound_grows : {V : Type 0} {c new : Content V} → Keeps c new → bound c ≤ bound new
bound_grows keeps = omega (arith, ap map.len keeps.live, ap set.len keeps.detached, ap set.len keeps.retired, keeps.room)

same_units : (a b : Option (Unit {0})) → is_some a ≡ is_some b → a ≡ b
same_units a b is = grind arith

module _ {V : Type 0} where
  abbrev none : V → Unit {0}
  none v = tt

  -- maps with the same keys have as many
  pub len_alike : (a b : map.FinMap key_cmp V) → ((q : Key) → map.contains_key a q ≡ map.contains_key b q) → map.len a ≡ map.len b
  len_alike a b same = sym (len-mapped none a) ∙ ap map.len (is_mapped none a (map_values none b) (λ q. get-mapped none b q
      ∙ same_units _ _ (some-mapped none (map.get b q) ∙ sym (same q) ∙ sym (some-mapped none (map.get a q))))) ∙ len-mapped none b

  -- a value that is written under a live key changes no key
  pub alone-written : (c : Content V) (k : Key) (v : V) → IsLive c k → without_values (with_value c k v) ≡ without_values c
  unfolding keys_of map_values
  alone-written c k v live = elim (map.get c.live k) as (λ o. map.get c.live k ≡ o → is_some o ≡ true → without_values (with_value c k v) ≡ without_values c) [
    | Some was ↦ λ there _. mapped-written none c (with_value c k v) k v was there refl refl
    | None ↦ λ gone there. absurd (cc)
  ] refl live

  -- as many slots are in use, and there is as much room
  pub used_alone : (c : Content V) → used (without_values c) ≡ used c
  used_alone c = omega (arith, len-keys_of c.live)

  pub used-written : (c : Content V) (k : Key) (v : V) → IsLive c k → used (with_value c k v) ≡ used c
  used-written c k v live = sym (used_alone (with_value c k v)) ∙ ap used (alone-written c k v live) ∙ used_alone c

  -- the bound and the capacity stay
  pub alone-space : (old new : Content V) → bound new ≡ bound old → new.capacity ≡ old.capacity → space (without_values new) ≡ space (without_values old)
  alone-space old new same capacity = let alone : bound (without_values new) ≡ bound (without_values old) = omega (arith, used_alone new, used_alone old, same) in λ i. (alone i, capacity i)

  -- a content that holds nothing, an insert, a removal, and a call that only makes room
  pub alone-new : (c : Content V) → IsNew c → IsNew (without_values c)
  unfolding keys_of map_values
  alone-new c new = mapped-new none c new

  pub alone-inserts : (old new : Content V) (k : Key) (v : V) → Inserts old k v new → Inserts (without_values old) k tt (without_values new)
  unfolding keys_of map_values
  alone-inserts old new k v inserts = mapped-inserts none old new k v inserts

  pub alone-removes : (old new : Content V) (k : Key) → Removes old k new → Removes (without_values old) k (without_values new)
  unfolding keys_of map_values
  alone-removes old new k removes = mapped-removes none old new k removes

  pub alone-keeps : (old new : Content V) → Keeps old new → Keeps (without_values old) (without_values new)
  unfolding keys_of map_values
  alone-keeps old new keeps = mapped-keeps none old new keeps

  pub alone-leaves : (old new : Content V) → Leaves old new → Leaves (without_values old) (without_values new)
  unfolding keys_of map_values
  alone-leaves old new leaves = mapped-leaves none old new leaves

  pub alone-room : (old new : Content V) (n : ℕ) (ok : Type 0) → MakesRoom true old n ok new → MakesRoom true (without_values old) n ok (without_values new)
  unfolding keys_of map_values
  alone-room old new n ok makes = mapped-room none old new n ok makes

  pub alone-copy : (is_clone : V → V → Type 0) (source copy : Content V) → IsCloneBy is_clone source copy → IsCopy (without_values source) (without_values copy)
  unfolding keys_of map_values
  alone-copy is_clone source copy clones = clone_copies (λ x y. Unit {0}) _ _ (mapped-clones none is_clone (λ x y. Unit {0}) (λ v w is. tt) source copy clones) (λ x y is. refl)

  -- contents with the same keys have the same live keys
  pub same_live : (old new : Content V) → without_values new ≡ without_values old → (q : Key) → map.contains_key new.live q ≡ map.contains_key old.live q
  same_live old new is q = sym (contains-keys_of new.live q) ∙ ap (λ (c : Content (Unit {0})). map.contains_key c.live q) is ∙ contains-keys_of old.live q
