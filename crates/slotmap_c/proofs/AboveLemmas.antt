-- The keys of an index above a number: one step of `list_after`, and its end. For this crate alone.
use Rattle.std.proofs.Common.{◌≡◌, ℕ, ◌+◌, ◌<◌, ◌≤◌, [], ◌∷◌, Some, true, refl, sym, ap, subst, ◌∙◌, arith}
use Rattle.slotmap_core.proofs.Common.{Content, Key, key_cmp, IsContent, IsLive, from_index, from_index-end, in_from, alone_at, entries_first, entries_none, is_some}
use Rattle.slotmap_core.proofs.Contents.IndexLemmas.{get_from, from_index-jump, from_index-take}
use Rattle.slotmap_c.specs.Calls.{above}
use Rattle.std.specs.FinMap as map

module _ {V : Type 0} (c : Content V) (i : ℕ) where
  -- the first of these keys, and those above it
  pub next_above : IsContent true c → (k : Key) (v : V) → map.get c.live k ≡ Some v → i + 1 ≤ k.index
      → ((q : Key) → IsLive c q → i + 1 ≤ q.index → k.index ≤ q.index) → map.entries (above i c.live) ≡ (k, v) ∷ map.entries (above k.index c.live)
  next_above valid k v bound after first =
      let from = from_index k.index c.live in
      let jump : from ≡ above i c.live = from_index-jump (i + 1) k.index c.live after first in
      let take : above k.index c.live ≡ map.remove from k =
      from_index-take k.index c.live k refl (alone_at c valid k k.index (ap is_some bound) refl) in
      let rest : (q : Key) → map.contains_key (map.remove from k) q ≡ true → k.index < q.index = λ q there.
      let at = (in_from (k.index + 1) c.live q (subst (λ (m : map.FinMap key_cmp V). map.contains_key m q ≡ true) (sym take) there)).0 in
      omega (arith, at) in
      ap (λ (m : map.FinMap key_cmp V). map.entries m) (sym jump) ∙ entries_first from k v (get_from k.index c.live k (omega arith) ∙ bound) rest
      ∙ ap (λ (m : map.FinMap key_cmp V). (k, v) ∷ map.entries m) (sym take)

  pub none_above : ((q : Key) → IsLive c q → q.index ≤ i) → map.entries (above i c.live) ≡ []
  none_above below = ap map.entries (from_index-end (i + 1) c.live (λ q live. let at = below q live in omega (arith, at))) ∙ entries_none
