-- What a closed handle reads as: nothing is found in it. For this crate alone.
use Rattle.std.specs.FinMap as map
use Rattle.std.specs.FinSet as set
use Rattle.std.proofs.Common.{◌≡◌, ℕ, Bool, false, not, None, length, min, is_some, refl, sym, subst, ap, ◌∙◌, inr, arith}
use Rattle.slotmap_core.proofs.Common.{Content, Key, key_cmp, IsLive, keys_total, exact_keys}
use Rattle.slotmap_c.proofs.AboveLemmas.{none_above}
use Rattle.slotmap_c.specs.Calls.{FindSays, DeleteSays, ReattachSays, NextSays, NextKeySays, above}
use Rattle.slotmap_c.specs.Held.{nothing}
use Rattle.slotmap_c.specs.Status.{not_live, not_detached, no_more}
use lib.Dec.{T}

module _ {V : Type 0} (m : Content V) (is : m ≡ nothing) where
  found : (k : Key) → map.get m.live k ≡ None
  found k = ap (λ (c : Content V). map.get c.live k) is ∙ map.get-empty {X = V} key_cmp k

  none : (k : Key) → IsLive m k → ⊥
  none k live = subst (λ (y : Bool). T (not y)) (sym (ap is_some (found k)) ∙ live) tt

  pub none_live : 0 ≡ map.len m.live
  none_live = sym (ap (λ (c : Content V). map.len c.live) is ∙ map.len-empty key_cmp V)

  pub none_listed : (n : ℕ) → 0 ≡ min n (map.len m.live)
  none_listed n = let empty : 0 ≡ map.len m.live = none_live in omega (arith, empty)

  pub none_listed_above : (i n : ℕ) → 0 ≡ min n (map.len (above i m.live))
  none_listed_above i n =
      let empty : 0 ≡ map.len (above i m.live) = sym (map.len-entries (above i m.live) ∙ ap length (none_above m i (λ q live. absurd (none q live)))) in
      omega (arith, empty)

  pub none_contained : (k : Key) → false ≡ map.contains_key m.live k
  none_contained k = sym (ap is_some (found k))

  pub none_deleted : (k : Key) → DeleteSays (map.contains_key m.live k) not_live
  none_deleted k = inr (refl, ap is_some (found k))

  pub none_removed : (n : Content V) → n ≡ nothing → (k : Key) → n.live ≡ map.remove m.live k
  none_removed n same k = ap (λ (c : Content V). c.live) (same ∙ sym is)
      ∙ map.same_map keys_total exact_keys m.live (map.remove m.live k) (λ q. grind (arith, map.get-remove keys_total m.live k q, found q))

  pub none_reattached : (n : Content V) → n ≡ nothing → (k : Key) (value : V) → ReattachSays m k value not_detached n
  none_reattached n same k value = inr (
    refl,
    (λ detached. subst (λ (y : Bool). T (not y))
        (sym (ap (λ (c : Content V). set.contains c.detached k) is ∙ set.contains-empty key_cmp k) ∙ detached) tt),
    same ∙ sym is,
  )

  pub none_next_key : (i out : ℕ) → NextKeySays m i no_more out out
  none_next_key i out = inr (refl, (λ other live. absurd (none other live)), refl)

module _ (m : Content ℕ) (is : m ≡ nothing) where
  pub none_found : (k : Key) (out : ℕ) → FindSays (map.get m.live k) not_live out out
  none_found k out = inr (refl, found m is k, refl)

  pub none_next : (i key value : ℕ) → NextSays m i no_more key key value value
  none_next i key value = inr (refl, (λ other live. absurd (none m is other live)), refl, refl)
