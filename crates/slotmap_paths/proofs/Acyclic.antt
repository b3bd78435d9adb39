-- Without a cycle, the order of a depth first search is one in which each edge goes backward.
use Rattle.std.proofs.Common.{◌≡◌, ◌≢◌, ℕ, zero, suc, ◌<◌, ◌≤◌, ◌⊎◌, if◌then◌else◌, List, [], ◌∷◌, length, refl, sym, ap, inl, inr, arith}
use Rattle.std.specs.FinMap as map
use Rattle.slotmap.specs.Words.{IsLive, Key}
use Rattle.slotmap.proofs.Callers.{same_or_other}
use Rattle.slotmap_bounded.specs.KeyLists.{times}
use Rattle.slotmap_bounded.proofs.Counts.{is_itself, is_other, one_itself, one_other, times_first}
use Rattle.slotmap_graph.specs.Parts.{IsJoined, Edges, Seen}
use Rattle.slotmap_graph.specs.Search.{Leads, LeadsBy}
use Rattle.slotmap_graph.specs.TopologicalOrder.{HasCycle}
use Rattle.slotmap_paths.specs.Depth.{GoesBackward, IsPostOrder, keys_behind}
use Rattle.slotmap_graph.proofs.Cycles.{leads_on}

-- what is behind a key is in the list
inside : (b c : Key) (ks : List Key) → times c (keys_behind b ks) ≤ times c ks
inside b c [] = omega arith
inside b c (q ∷ ks) = elim (same_or_other q b) [
  | inl is ↦ grind (arith, is, is_itself b, times_first c b ks)
  | inr other ↦ grind (arith, is_other q b other, times_first c q ks, inside b c ks)
]

shorter_inside : (c : Key) (ks : List Key) → 0 < times c ks → length (keys_behind c ks) < length ks
shorter_inside c [] more = absurd (omega (arith, more))
shorter_inside c (q ∷ ks) more = elim (same_or_other q c) [
  | inl is ↦ grind (arith, is, is_itself c)
  | inr other ↦ grind (arith, is_other q c other, shorter_inside c ks (omega (arith, more, times_first c q ks, one_other q c other)))
]

-- in a list that has no key twice
module _ (a b : Key) where
  apart : (q : Key) (ks : List Key) → times q (q ∷ ks) ≤ 1 → (c : Key) → 0 < times c ks → q ≢ c
  apart q ks once c there is = absurd (omega (arith, once, there, times_first q q ks, one_itself q, ap (λ x. times x ks) is))

  -- what is behind b is behind a, if b is
  behind_both : (c : Key) (ks : List Key) → ((x : Key) → times x ks ≤ 1) → 0 < times b (keys_behind a ks) → 0 < times c (keys_behind b ks) → 0 < times c (keys_behind a ks)
  behind_both c [] once first second = absurd (omega (arith, first))
  behind_both c (q ∷ ks) once first second = elim (same_or_other q a) [
    | inl is ↦ (let b_there : 0 < times b ks = grind (arith, is, is_itself a, first) in
        let other = apart q ks (once q) b b_there in
        grind (arith, is, is_itself a, is_other q b other, inside b c ks, second))
    | inr other ↦ (let later : 0 < times b (keys_behind a ks) = grind (arith, is_other q a other, first) in
        let b_other = apart q ks (once q) b (omega (arith, later, inside a b ks)) in
        let rest = behind_both c ks (λ x. omega (arith, once x, times_first x q ks)) later (grind (arith, is_other q b b_other, second)) in
        grind (arith, is_other q a other, rest))
  ]

  -- and less is behind b
  shorter : (ks : List Key) → ((x : Key) → times x ks ≤ 1) → 0 < times b (keys_behind a ks) → length (keys_behind b ks) < length (keys_behind a ks)
  shorter [] once first = absurd (omega (arith, first))
  shorter (q ∷ ks) once first = elim (same_or_other q a) [
    | inl is ↦ (let b_there : 0 < times b ks = grind (arith, is, is_itself a, first) in
        let other = apart q ks (once q) b b_there in
        grind (arith, is, is_itself a, is_other q b other, shorter_inside b ks b_there))
    | inr other ↦ (let later : 0 < times b (keys_behind a ks) = grind (arith, is_other q a other, first) in
        let b_other = apart q ks (once q) b (omega (arith, later, inside a b ks)) in
        let rest = shorter ks (λ x. omega (arith, once x, times_first x q ks)) later in
        grind (arith, is_other q a other, is_other q b b_other, rest))
  ]

  -- one of two keys is behind the other
  one_behind : (ks : List Key) → a ≢ b → 0 < times a ks → 0 < times b ks → (0 < times a (keys_behind b ks)) ⊎ (0 < times b (keys_behind a ks))
  one_behind [] other at bt = absurd (omega (arith, at))
  one_behind (q ∷ ks) other at bt = elim (same_or_other q a) [
    | inl is ↦ inr (grind (arith, is, is_itself a, bt, times_first b q ks, one_other a b other))
    | inr q_a ↦ elim (same_or_other q b) [
      | inl is ↦ inl (grind (arith, is, is_itself b, at, times_first a q ks, one_other b a (λ e. other (sym e))))
      | inr q_b ↦ elim (one_behind ks other (omega (arith, at, times_first a q ks, one_other q a q_a)) (omega (arith, bt, times_first b q ks, one_other q b q_b))) [
        | inl first ↦ inl (grind (arith, is_other q b q_b, first))
        | inr second ↦ inr (grind (arith, is_other q a q_a, second))
      ]
    ]
  ]

  not_behind_itself : (ks : List Key) → ((x : Key) → times x ks ≤ 1) → 0 < times b (keys_behind a ks) → a ≢ b
  not_behind_itself ks once first is = absurd (omega (arith, shorter ks once first, ap (λ x. length (keys_behind x ks)) is))

module _ {E : Type 0} (edges : Edges E) where
  -- a path there and one back close a cycle
  closes : (a c : Key) → Leads edges a c → a ≢ c → Leads edges c a → HasCycle edges
  closes a c way other back = by way.0 way.1
    where
      by : (n : ℕ) → LeadsBy edges n a c → HasCycle edges
      by zero is = absurd (other is)
      by (suc n) path = let join = path.2 in (join.0, (join.1, join.2, rw (join.3, join.4) (leads_on edges c a path.0 back (n, path.1))))

  module _ (order : List Key) (once : (x : Key) → times x order ≤ 1) (in_order : IsPostOrder edges order) (acyclic : HasCycle edges → ⊥) (a : Key) where
    no_later : (n : ℕ) (c : Key) → length (keys_behind c order) < n → 0 < times c (keys_behind a order) → Leads edges a c → ⊥
    no_later zero c short there way = absurd (omega (arith, short))
    no_later (suc n) c short there way = elim (in_order a c there way) [
      | inl back ↦ acyclic (closes a c way (not_behind_itself a c order once there) back)
      | inr by ↦ no_later n by.0 (omega (arith, short, shorter c by.0 order once by.1)) (behind_both a c by.0 order once there by.1) by.2
    ]

    pub not_later : (c : Key) → 0 < times c (keys_behind a order) → Leads edges a c → ⊥
    not_later c there way = no_later (suc (length (keys_behind c order))) c (omega arith) there way

pub goes_backward : {N E : Type 0} (s : Seen N E) → IsJoined s → (order : List Key) → ((x : Key) → times x order ≡ (if map.contains_key s.nodes.live x then 1 else 0))
    → IsPostOrder s.edges.live order → (HasCycle s.edges.live → ⊥) → GoesBackward s.edges.live order
goes_backward {N} {E} s joined order all in_order acyclic k e there =
    elim (one_behind e.from e.to order other (there_live e.from live.0) (there_live e.to live.1)) [
      | inl from_behind ↦ from_behind
      | inr to_behind ↦ absurd (not_later s.edges.live order (λ x. grind (arith, all x)) in_order acyclic e.from e.to to_behind (suc zero, (e.from, refl, (k, e, there, refl, refl))))
    ]
  where
    live : IsLive s.nodes e.from × IsLive s.nodes e.to
    live = joined.ends k e there

    there_live : (x : Key) → IsLive s.nodes x → 0 < times x order
    there_live x is = grind (arith, all x, is)

    other : e.from ≢ e.to
    other is = acyclic (k, (e, there, (zero, sym is)))
