-- The order in which places are freed.
-- For the crates of maps.
use Rattle.std.proofs.Common.{arith, ◌≡◌, ℕ, ◌<◌, Bool, true, cond, not, List, [], ◌∷◌, ◌++◌, map as list_map, Some, None, refl, sym, ap, ◌∙◌, option_map, nat_cmp}
use Rattle.std.proofs.lemmas.List.{map-append, nil_from_length}
use Rattle.std.proofs.lemmas.Iterator.Adapters.{option_map_id}
use Rattle.std.specs.declared.cmp.Ordering.TheVariants.{Less, Greater}
use Rattle.std.specs.FinMap.Entries.{put}
use Rattle.slotmap_core.specs.Words.{eq_by_cmp, ordering_then, nat_cmp_is, list_any, Key, key_cmp, Content, IsLive, Removes, has_left, with_value, pushed, pushed_all, keys_left, FreesByIndex}
use Rattle.slotmap_core.proofs.General.KeyLemmas.{keys_total, exact_keys, tied, itself}
use Rattle.slotmap_core.proofs.Contents.LeaveLemmas.{was_live, is_gone, same_live, live-removed_at, live_no_more}
use Rattle.slotmap_core.proofs.General.{Maps.insert_same, Maps.or_right, ListingLemmas.insert-remove}
use Rattle.slotmap_core.proofs.Contents.{ContentLemmas.some_is, IndexLemmas.none_live}
use Rattle.std.specs.FinMap as map

pub pushed_all_push : (stack : List ℕ) (ks : List Key) (k : Key) → pushed_all stack (ks ++ k ∷ []) ≡ pushed (pushed_all stack ks) k
pushed_all_push stack [] k = refl
pushed_all_push stack (x ∷ ks) k = pushed_all_push (pushed stack x) ks k

-- a key of a larger index is larger
pub greater : (k q : Key) → q.index < k.index → key_cmp k q ≡ Greater
greater k q less = ap (λ o. ordering_then o (nat_cmp k.version q.version)) (sym (nat_cmp_is k.index q.index Greater less))

lesser : (k q : Key) → k.index < q.index → key_cmp k q ≡ Less
lesser k q less = ap (λ o. ordering_then o (nat_cmp k.version q.version)) (sym (nat_cmp_is k.index q.index Less less))

module _ {V : Type 0} where
  -- an entry whose key is the smallest is put at the beginning
  put_first : (k : Key) (v : V) (es : List (Key × V)) → ((q : Key) → list_any (eq_by_cmp key_cmp q) (list_map (λ e. e.0) es) ≡ true → key_cmp k q ≡ Less)
      → put key_cmp k v es ≡ (k, v) ∷ es
  put_first k v [] below = refl
  put_first k v (e ∷ es) below = grind (arith, below e.0, itself keys_total exact_keys e.0)

  -- an entry whose key is the largest is put at the end
  pub put_last : (k : Key) (v : V) (es : List (Key × V))
      → ((q : Key) → list_any (eq_by_cmp key_cmp q) (list_map (λ e. e.0) es) ≡ true → key_cmp k q ≡ Greater) → put key_cmp k v es ≡ es ++ (k, v) ∷ []
  put_last k v [] above = refl
  put_last k v (e ∷ es) above = grind (arith, itself keys_total exact_keys e.0, put_last k v es (λ q there. above q (or_right (eq_by_cmp key_cmp q e.0) _ there)))

  -- an entry whose key is the smallest is the first
  pub entries_first : (m : map.FinMap key_cmp V) (k : Key) (v : V) → map.get m k ≡ Some v
      → ((q : Key) → map.contains_key (map.remove m k) q ≡ true → k.index < q.index) → map.entries m ≡ (k, v) ∷ map.entries (map.remove m k)
  entries_first m k v found below =
      grind (arith, insert-remove, (insert_same keys_total exact_keys m k v found), map.entries-insert keys_total (map.remove m k) k v, put_first, map.contains_key-keys (map.remove m k))

  -- an empty map has no entry
  pub entries_none : map.entries (map.empty {X = V} {R = key_cmp}) ≡ []
  entries_none = nil_from_length (map.entries (map.empty {X = V} {R = key_cmp})) (sym (map.len-entries (map.empty {X = V} {R = key_cmp})) ∙ map.len-empty key_cmp V)

  -- what a test of the keys leaves of a map
  get-retained : (m : map.FinMap key_cmp V) (p : Key → Bool) (q : Key) → map.get (map.retain_keys m p) q ≡ cond (p q) (map.get m q) None
  get-retained m p q = map.get-retain_keys m p q (λ x t. ap p (sym (exact_keys q x t)))

  -- a key that was removed, found in the list of these keys
  listed_left : (a b : Content V) (q : Key) → map.contains_key (map.retain_keys a.live (λ q. not (map.contains_key b.live q))) q ≡ true → has_left a b q ≡ true
  listed_left a b q there = grind (arith, get-retained a.live (λ q. not (map.contains_key b.live q)) q)

  -- at the start no key was removed
  pub FreesByIndex-start : (c : Content V) → FreesByIndex c c
  FreesByIndex-start c =
      let none : map.retain_keys c.live (λ q. not (map.contains_key c.live q)) ≡ map.empty =
      none_live _ (λ q there. let left = listed_left c c q there in is_gone c c q left (was_live c c q left)) in
      sym (option_map_id c.stack)
      ∙ ap (λ ks. option_map (λ stack. pushed_all stack ks) c.stack) (sym (ap (λ m. map.keys m) none ∙ ap (λ es. list_map (λ (e : Key × V). e.0) es) entries_none))

  -- another value frees nothing
  pub FreesByIndex-with_value : (a b : Content V) (k : Key) (w : V) → IsLive b k → FreesByIndex a b → FreesByIndex a (with_value b k w)
  FreesByIndex-with_value a b k w is_live before =
      before ∙ ap (λ (p : Key → Bool). option_map (λ stack. pushed_all stack (map.keys (map.retain_keys a.live p))) a.stack) (λ i q. not (sym (same_live b k w is_live q) i))

  -- a key of a larger index than all removed ones is removed next
  pub FreesByIndex-removed : (a b c : Content V) (k : Key) → FreesByIndex a b → IsLive a k → IsLive b k
      → ((q : Key) → has_left a b q ≡ true → q.index < k.index) → Removes b k c → FreesByIndex a c
  FreesByIndex-removed a b c k before was_live is_live above removes = grind (arith, one_more, pushed_all_push)
    where
      one_more : keys_left a c ≡ keys_left a b ++ k ∷ []
      one_more =
          let value = some_is (map.get a.live k) was_live in
          let stayed = map.retain_keys a.live (λ q. not (map.contains_key b.live q)) in
          let put_in : map.retain_keys a.live (λ q. not (map.contains_key c.live q)) ≡ map.insert stayed k value.0 = map.same_map keys_total exact_keys _ _ (λ q.
          grind (arith, get-retained, map.get-insert keys_total stayed k value.0 q, live-removed_at b c k removes q, tied keys_total exact_keys q k)) in
          ap (λ n. map.keys n) put_in
          ∙ ap (λ es. list_map (λ (e : Key × V). e.0) es) (map.entries-insert keys_total stayed k value.0
          ∙ put_last k value.0 (map.entries stayed) (λ q there. greater k q (above q (listed_left a b q (map.contains_key-keys stayed q ∙ there)))))
          ∙ map-append (λ (e : Key × V). e.0) (map.entries stayed) ((k, value.0) ∷ [])

  -- a key of a smaller index than all that are removed later was removed before
  pub FreesByIndex-first : (a b c : Content V) (k : Key) → IsLive a k → Removes a k b → ((q : Key) → IsLive b q → k.index < q.index)
      → ((q : Key) → IsLive c q → IsLive b q) → FreesByIndex b c → FreesByIndex a c
  FreesByIndex-first a b c k is_live removes above no_more later = grind (arith, removes.stack, later, one_more)
    where
      one_more : keys_left a c ≡ k ∷ keys_left b c
      one_more =
          let value = some_is (map.get a.live k) is_live in
          let stayed = map.retain_keys b.live (λ q. not (map.contains_key c.live q)) in
          let put_in : map.retain_keys a.live (λ q. not (map.contains_key c.live q)) ≡ map.insert stayed k value.0 = map.same_map keys_total exact_keys _ _ (λ q.
          grind (arith, get-retained, map.get-insert keys_total stayed k value.0 q, live-removed_at a b k removes q, tied keys_total exact_keys q k, live_no_more a b k removes, no_more k)) in
          ap (λ n. map.keys n) put_in
          ∙ ap (λ es. list_map (λ (e : Key × V). e.0) es)
          (map.entries-insert keys_total stayed k value.0 ∙ put_first k value.0 (map.entries stayed)
          (λ q there. lesser k q (above q (was_live b c q (listed_left b c q (map.contains_key-keys stayed q ∙ there))))))
