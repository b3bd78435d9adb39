-- Each change of one place keeps the places and the stack well formed.
-- For the crates of maps.
use Rattle.std.proofs.Common.{◌≡◌, ◌≢◌, ◌⊎◌, ◌+◌, ◌^◌, ◌<◌, List, ◌∷◌, ◌++◌, length, slice_get, Some, is_some, cond, refl, subst, ◌∙◌, arith, ⊎_elim}
use Rattle.std.proofs.Common.{inl, inr, ℕ, [], set, sym, ap}
use Rattle.std.proofs.lemmas.{Option.slice_get_within, Option.same_Some, List.length-set, List.length_push}
use Rattle.slotmap_core.specs.Words.{nat_cmp, key_cmp, Place, Live, Vacant, live, used_places, IsOn, IsOnce, IsVersion, HasVersion, IsStacked}
use Rattle.slotmap_core.proofs.General.GatherLemmas.{slice_get-set_same, slice_get-set_other, slice_get_push_other, at_push}
use Rattle.slotmap_core.proofs.Places.PlacesLemmas.{vacancy, no_vacancy, len-next-set, next-push_live, sentinel_alone, total}
use Rattle.std.specs.FinMap as map

module _ {V : Type 0} (ps : List (Place V)) (vs : List ℕ) (stacked : IsStacked ps vs) where
  -- a place that isn't vacant isn't on the stack
  pub not_on : (i : ℕ) (p : Place V) → slice_get ps i ≡ Some p → ((n : ℕ) → p ≢ Vacant n) → IsOn vs i → ⊥
  not_on i p found other on = let at = stacked.listed i on in other at.1.0 (same_Some p (Vacant at.1.0) (sym found ∙ at.1.1))

  pub not_first : (i : ℕ) (p : Place V) → slice_get ps i ≡ Some p → ((n : ℕ) → p ≢ Vacant n) → 0 < i
  not_first i p found other = grind (arith, stacked.sentinel, other 1)

  -- a place other than the first turns into another one, and the stack has each vacant index of the places afterwards
  IsStacked-set : (i : ℕ) (old new : Place V) → slice_get ps i ≡ Some old → 0 < i → HasVersion new → (ws : List ℕ) → IsOnce ws
      → length ws + cond (is_some (vacancy i old)) 1 0 ≡ length vs + cond (is_some (vacancy i new)) 1 0
      → ((j : ℕ) → IsOn ws j → ((j ≡ i) × ((n : ℕ) × (new ≡ Vacant n))) ⊎ ((j ≢ i) × IsOn vs j))
      → ((j : ℕ) → j ≢ i → IsOn vs j → IsOn ws j) → ((n : ℕ) → new ≡ Vacant n → IsOn ws i × (1 < n)) → IsStacked (set ps i new) ws
  IsStacked-set i old new found positive good ws once count on off here = grind (arith, slice_get-set_other, length-set, slice_get-set_same, slice_get_within, len-next-set)

  -- a place with a key turns into another one, or is retired
  pub IsStacked-kept : (i : ℕ) (old new : Place V) → slice_get ps i ≡ Some old → ((n : ℕ) → old ≢ Vacant n) → ((n : ℕ) → new ≢ Vacant n) → HasVersion new
      → IsStacked (set ps i new) vs
  IsStacked-kept i old new found was is good =
      IsStacked-set i old new found (not_first i old found was) good vs stacked.once (rw (no_vacancy i old was, no_vacancy i new is))
      (λ j on. inr (λ same. not_on i old found was (subst (IsOn vs) same on), on)) (λ j other on. on) (λ n e. absurd (is n e))

  -- a live place turns vacant
  pub IsStacked-freed : (i version n : ℕ) (value : V) → slice_get ps i ≡ Some (Live version value) → IsVersion n → 1 < n → IsStacked (set ps i (Vacant n)) (i ∷ vs)
  IsStacked-freed i version n value found good later =
      let off : IsOn vs i → ⊥ = not_on i (Live version value) found (λ m e. absurd (cc)) in
      IsStacked-set i (Live version value) (Vacant n) found (not_first i (Live version value) found (λ m e. absurd (cc))) good (i ∷ vs) (off, stacked.once) (omega arith)
      (λ j on. ⊎_elim (λ same. inl (same, (n, refl))) (λ rest. inr (λ same. off (subst (IsOn vs) same rest), rest)) on)
      (λ j other on. inr on) (λ m e. (inl refl, (let same : n ≡ m = cc in omega arith)))

  -- one more live place
  pub IsStacked-pushed : (value : V) → length ps + 1 < 2 ^ 32 → IsStacked (ps ++ Live 1 value ∷ []) vs
  IsStacked-pushed value fits = grind (arith, slice_get_push_other, slice_get_within, length_push, at_push, next-push_live)

-- the place on top of the stack is filled
pub IsStacked-filled : {V : Type 0} (ps : List (Place V)) (i : ℕ) (rest : List ℕ) (n : ℕ) (value : V) → IsStacked ps (i ∷ rest)
    → slice_get ps i ≡ Some (Vacant n) → IsStacked (set ps i (Live n value)) rest
IsStacked-filled ps i rest n value stacked found =
    IsStacked-set ps (i ∷ rest) stacked i (Vacant n) (Live n value) found (stacked.listed i (inl refl)).0 (stacked.versions i (Vacant n) found) rest stacked.once.1 (omega arith)
    (λ j on. inr (λ same. stacked.once.0 (subst (IsOn rest) same on), inr on)) (λ j other on. ⊎_elim (λ same. absurd (other same)) (λ on. on) on) (λ m e. absurd (cc))

-- the sentinel alone
module _ (V : Type 0) where
  pub live-sentinel : map.len (live {V = V} (Vacant 1 ∷ [])) ≡ 0
  live-sentinel = ap map.len ((sentinel_alone V 1).0) ∙ map.len-empty key_cmp V

  pub IsStacked-sentinel : IsStacked {V = V} (Vacant 1 ∷ []) []
  IsStacked-sentinel = grind (arith, sentinel_alone V 1, map.len-empty nat_cmp ℕ)

  pub used_places-sentinel : used_places {V = V} (Vacant 1 ∷ []) ≡ 0
  used_places-sentinel = omega (arith, total {V = V} (Vacant 1 ∷ []) 1 refl)
