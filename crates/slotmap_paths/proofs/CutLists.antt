-- Lists of keys that are cut at one of them.
use Rattle.std.proofs.Common.{◌≡◌, ◌≢◌, ◌+◌, ◌<◌, ◌≤◌, Option, Some, None, List, [], ◌∷◌, ◌++◌, refl, sym, ap, ◌∙◌, inl, inr, arith}
use Rattle.slotmap.specs.Words.{Key}
use Rattle.slotmap.proofs.Callers.{same_or_other}
use Rattle.slotmap_bounded.specs.KeyLists.{last_or, same, times}
use Rattle.slotmap_bounded.proofs.Counts.{is_itself, is_other, one_itself, one_other, times_first, times_joined}
use Rattle.slotmap_links.specs.Lists.{first_or}
use Rattle.slotmap_graph.specs.Parts.{key_after}
use Rattle.slotmap_paths.specs.Depth.{keys_behind}
use Rattle.slotmap_paths.specs.Deepening.{ahead, keys_from}

-- the last key of two lists
pub last_joined : (xs ys : List Key) (o : Option Key) → last_or (xs ++ ys) o ≡ last_or ys (last_or xs o)
last_joined [] ys o = refl
last_joined (x ∷ xs) ys o = last_joined xs ys (Some x)

-- what is behind a key in two lists
module _ (k : Key) (rest : List Key) where
  pub behind_gone : (ks : List Key) → times k ks ≡ 0 → keys_behind k (ks ++ k ∷ rest) ≡ rest
  behind_gone [] none = grind (arith, is_itself k)
  behind_gone (q ∷ ks) none = grind (arith, times_first k q ks, one_itself k, is_other q k, same_or_other q k, behind_gone ks)

-- one more between them
module _ (x : Key) (rest : List Key) where
  pub behind_more : (a b : Key) (ks : List Key) → 0 < times a ks → times b (keys_behind a (ks ++ x ∷ rest)) ≡ same x b + times b (keys_behind a (ks ++ rest))
  behind_more a b [] more = absurd (omega arith)
  behind_more a b (q ∷ ks) more = elim (same_or_other q a) [
    | inl is ↦ grind (arith, is, is_itself a, times_joined b ks (x ∷ rest), times_joined b ks rest, times_first b x rest)
    | inr other ↦ grind (arith, is_other q a other, one_other q a other, times_first a q ks, behind_more a b ks)
  ]

  pub behind_kept : (b c : Key) → x ≢ b → (ks : List Key) → times c (keys_behind b (ks ++ rest)) ≤ times c (keys_behind b (ks ++ x ∷ rest))
  behind_kept b c apart [] = grind (arith, is_other x b apart)
  behind_kept b c apart (q ∷ ks) = elim (same_or_other q b) [
    | inl is ↦ grind (arith, is, is_itself b, times_joined c ks (x ∷ rest), times_joined c ks rest, times_first c x rest)
    | inr other ↦ grind (arith, is_other q b other, behind_kept b c apart ks)
  ]

-- the keys of a list from the first on are all
pub ahead_all : (ks : List Key) → ahead (first_or ks None) ks ≡ ks
ahead_all [] = refl
ahead_all (k ∷ ks) = grind (arith, is_itself k)

-- what is ahead after a step
module _ (k : Key) where
  starts_here : (ks : List Key) (r : Key) (rest : List Key) → keys_from k ks ≡ r ∷ rest → (r ≡ k) × (0 < times k ks)
  starts_here [] r rest is = absurd (cc)
  starts_here (q ∷ ks) r rest is = elim (same_or_other q k) [
    | inl at ↦ (grind (arith, at, is_itself k, is), grind (arith, at, times_first k q ks, one_itself k))
    | inr other ↦ (let later = starts_here ks r rest (grind (arith, is_other q k other, is)) in (later.0, omega (arith, later.1, times_first k q ks)))
  ]

  next_there : (ks : List Key) → Some k ≡ first_or (keys_from k ks) None → 0 < times k ks
  next_there [] is = absurd (cc)
  next_there (q ∷ ks) is = elim (same_or_other q k) [
    | inl at ↦ omega (arith, times_first k q ks, ap (λ x. same x k) at, one_itself k)
    | inr other ↦ omega (arith, times_first k q ks, next_there ks (grind (arith, is_other q k other, is)))
  ]

-- one other key in front changes nothing behind it
ahead_behind : (q : Key) (ks : List Key) → times q ks ≡ 0 → (rest : List Key) → ahead (first_or rest None) ks ≡ rest → ahead (first_or rest None) (q ∷ ks) ≡ rest
ahead_behind q ks none [] is = refl
ahead_behind q ks none (p ∷ rest) is = elim (same_or_other q p) [
  | inl at ↦ absurd (omega (arith, none, ap (λ x. times x ks) at, (starts_here p ks p rest is).1))
  | inr other ↦ grind (arith, is_other q p other, is)
]

pub step_ahead : (k : Key) (ks : List Key) → ((x : Key) → times x ks ≤ 1) → 0 < times k ks
    → (rest : List Key) × (keys_from k ks ≡ k ∷ rest) × (key_after k ks ≡ first_or rest None) × (ahead (key_after k ks) ks ≡ rest)
step_ahead k [] once more = absurd (omega arith)
step_ahead k (q ∷ ks) once more =
    let none : times q ks ≡ 0 = omega (arith, once q, times_first q q ks, one_itself q) in
    elim (same_or_other q k) [
      | inl at ↦ (
        ks,
        grind (arith, at, is_itself k),
        grind (arith, at, is_itself k),
        (let after : key_after k (q ∷ ks) ≡ first_or ks None = grind (arith, at, is_itself k) in ap (λ o. ahead o (q ∷ ks)) after ∙ ahead_behind q ks none ks (ahead_all ks)),
      )
      | inr other ↦ (let later = step_ahead k ks (λ x. omega (arith, once x, times_first x q ks)) (omega (arith, more, times_first k q ks, one_other q k other)) in
          let after : key_after k (q ∷ ks) ≡ first_or later.0 None = grind (arith, is_other q k other, later.2) in (
            later.0,
            grind (arith, is_other q k other, later.1),
            after,
            ap (λ o. ahead o (q ∷ ks)) after ∙ ahead_behind q ks none later.0 (ap (λ o. ahead o ks) (sym later.2) ∙ later.3),
          ))
    ]

pub next_inside : (k : Key) (ks : List Key) → Some k ≡ first_or (keys_from k ks) None → 0 < times k ks
next_inside = next_there

-- what has something behind it is in the list
pub behind_some : (a b : Key) (ks : List Key) → 0 < times b (keys_behind a ks) → 0 < times a ks
behind_some a b [] more = absurd (omega (arith, more))
behind_some a b (q ∷ ks) more = elim (same_or_other q a) [
  | inl is ↦ omega (arith, times_first a q ks, ap (λ x. same x a) is, one_itself a)
  | inr other ↦ omega (arith, times_first a q ks, behind_some a b ks (grind (arith, is_other q a other, more)))
]
