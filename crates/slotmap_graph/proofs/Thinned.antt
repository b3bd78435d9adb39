-- Edges that are taken out one after the other, each of which touches a node.
use Rattle.slotmap_graph.proofs.Common.{◌∙◌, is_some, ap, option_and_then, Content, IsSpent, KeepsSpent, same_or_other, without, is_other, filter_less, filter_all, SeenEdge, touches, ListsEdges}
use Rattle.slotmap_graph.proofs.Common.{true, false, Some, None, not, cond, List, refl, sym, inl, inr, arith, filter, Key, keys, is_key, Edges, avoids}
use Rattle.std.proofs.Common.{◌≡◌, ◌≢◌, ◌⊎◌}
use Rattle.slotmap_graph.proofs.Adjacent.{listed_edge}
use Rattle.std.specs.FinMap as map

-- this edge touched the node, and is gone for good
pub record IsTaken {E : Type 0} (node : Key) (old now : Content (SeenEdge E)) (k : Key) : Type 0 where
  pub edge : SeenEdge E
  pub was : map.get old.live k ≡ Some edge
  pub touched : touches node edge ≡ true
  pub gone : map.get now.live k ≡ None
  pub for_good : IsSpent now k

pub record Thinned {E : Type 0} (node : Key) (old now : Content (SeenEdge E)) : Type 0 where
  pub each : (k : Key) → (map.get now.live k ≡ map.get old.live k) ⊎ IsTaken node old now k
  pub keeps : KeepsSpent old now

module _ {E : Type 0} (node : Key) (old now : Content (SeenEdge E)) where
  pub thinned_start : now ≡ old → Thinned node old now
  thinned_start is = rw is (record { each = λ k. inl refl; keeps = λ k spent. spent })

  module _ (thinned : Thinned node old now) where
    pub thinned_step : (new : Content (SeenEdge E)) (x : Key) (e : SeenEdge E) → map.get now.live x ≡ Some e → touches node e ≡ true → new.live ≡ map.remove now.live x
        → IsSpent new x → KeepsSpent now new → Thinned node old new
    thinned_step new x e there touched is spent keeps = record {
      each = λ k. elim (same_or_other k x) [
        | inl at ↦ rw at (inr (here (thinned.each x)))
        | inr other ↦ elsewhere k other (thinned.each k)
      ];
      keeps = λ k s. keeps k (thinned.keeps k s);
    }
      where
        here : (map.get now.live x ≡ map.get old.live x) ⊎ IsTaken node old now x → IsTaken node old new x
        here (inl same) = record { edge = e; was = sym same ∙ there; touched = touched; gone = rw is (grind (arith, keys)); for_good = spent }
        here (inr taken) = absurd (let none = taken.gone in cc)

        stays : (k : Key) → k ≢ x → map.get new.live k ≡ map.get now.live k
        stays k other = rw is (grind (arith, keys))

        elsewhere : (k : Key) → k ≢ x → (map.get now.live k ≡ map.get old.live k) ⊎ IsTaken node old now k → (map.get new.live k ≡ map.get old.live k) ⊎ IsTaken node old new k
        elsewhere k other (inl same) = inl (stays k other ∙ same)
        elsewhere k other (inr t) = inr (record { edge = t.edge; was = t.was; touched = t.touched; gone = stays k other ∙ t.gone; for_good = keeps k t.for_good })

    module _ (none : (k : Key) (e : SeenEdge E) → map.get now.live k ≡ Some e → touches node e ≡ false) where
      pub thinned_end : (k : Key) → map.get now.live k ≡ option_and_then (λ e. cond (avoids node e) (Some e) None) (map.get old.live k)
      thinned_end k = grind (arith, thinned.each k, none k)

      pub thinned_spent : (k : Key) (e : SeenEdge E) → map.get old.live k ≡ Some e → touches node e ≡ true → IsSpent now k
      thinned_spent k e was touched = grind (arith, none k e, thinned.each k)

-- what is left touches the node no more
pub none_left : {E : Type 0} (node : Key) (old now : Edges E) → ((k : Key) → map.get now k ≡ option_and_then (λ e. cond (avoids node e) (Some e) None) (map.get old k))
    → (k : Key) (e : SeenEdge E) → map.get now k ≡ Some e → touches node e ≡ false
none_left {E} node old now each k e found = grind (arith, each k)

-- a list, where each time the edge that goes is taken out
module _ {E : Type 0} (edges : Edges E) (first now : List Key) (so_far : filter (map.contains_key edges) first ≡ filter (map.contains_key edges) now) where
  pub thin_step : (x : Key) → filter (map.contains_key (map.remove edges x)) first ≡ filter (map.contains_key (map.remove edges x)) (without x now)
  thin_step x = sym (filter_less _ (map.contains_key edges) less first) ∙ ap (filter (map.contains_key (map.remove edges x))) so_far
      ∙ filter_less _ (map.contains_key edges) less now ∙ sym (filter_less _ (λ q. not (is_key q x)) apart now)
    where
      less : (q : Key) → map.contains_key (map.remove edges x) q ≡ true → map.contains_key edges q ≡ true
      less q there = grind (arith, keys)

      gone : map.contains_key (map.remove edges x) x ≡ false
      gone = grind (arith, keys)

      apart : (q : Key) → map.contains_key (map.remove edges x) q ≡ true → not (is_key q x) ≡ true
      apart q there = grind (arith, keys, same_or_other q x, is_other q x)

  pub thin_end : (end : SeenEdge E → Key) (k : Key) → ListsEdges end edges k now → now ≡ filter (map.contains_key edges) first
  thin_end end k lists = sym (so_far ∙ filter_all (map.contains_key edges) now (λ x more. ap is_some (listed_edge end edges k now lists x more).1))
