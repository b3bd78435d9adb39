-- A map, or a content, with another value for each of its values: what each change of a map does to it.
use Rattle.std.proofs.Common.{◌≡◌, ◌&&◌, ℕ, T, Bool, true, false, cond, is_lt, Option, Some, None, is_some, List, [], ◌∷◌, length, map as list_map, refl, sym, ap, ◌∙◌, subst}
use Rattle.std.proofs.Common.{inl, inr, arith}
use Rattle.std.specs.{Option.option_map, Ordering.eq_by_cmp}
use Rattle.std.specs.FinMap.Entries.{find, below_all, is_sorted}
use Rattle.std.proofs.lemmas.{List.length-map, Simd.map-map}
use Rattle.slotmap.specs.Words.{Key, key_cmp, Content, IsContent, IsLive, IsNew, Inserts, Removes, Keeps, Leaves, MakesRoom, StaysValid, IsCloneOf, IsCloneBy, with_value, used}
use Rattle.slotmap.proofs.Callers.{keys_total, exact_keys, same_or_other, get-insert_here, get-insert_other, tied}
use Rattle.slotmap_bounded.specs.Mapped.{map_values, map_content}
use Rattle.slotmap_bounded.proofs.Shown.{shown_content, shown_inserts, shown_removes, shown_keeps, shown_leaves, shown_makes_room}
use Rattle.std.specs.FinMap as map

-- a map with what f makes of each key and its value
module _ {V W : Type 0} (f : Key → V → W) where
  abbrev pub made : Key × V → Key × W
  made e = (e.0, f e.0 e.1)

  below-made : (k : Key) (es : List (Key × V)) → below_all key_cmp k (list_map made es) ≡ below_all key_cmp k es
  below-made k [] = refl
  below-made k (e ∷ es) = ap (λ b. is_lt (key_cmp k e.0) && b) (below-made k es)

  sorted-made : (es : List (Key × V)) → is_sorted key_cmp (list_map made es) ≡ is_sorted key_cmp es
  sorted-made [] = refl
  sorted-made (e ∷ es) = ap (λ b. b && is_sorted key_cmp (list_map made es)) (below-made e.0 es) ∙ ap (λ b. below_all key_cmp e.0 es && b) (sorted-made es)

  find-made : (k : Key) (es : List (Key × V)) → find key_cmp k (list_map made es) ≡ option_map (f k) (find key_cmp k es)
  find-made k [] = refl
  find-made k (e ∷ es) = elim (eq_by_cmp key_cmp k e.0) as
      (λ b. eq_by_cmp key_cmp k e.0 ≡ b → cond b (Some (f e.0 e.1)) (find key_cmp k (list_map made es)) ≡ option_map (f k) (cond b (Some e.1) (find key_cmp k es))) [
        | true ↦ λ tie. ap (λ q. Some (f q e.1)) (sym (tied keys_total exact_keys k e.0 tie))
        | false ↦ λ _. find-made k es
      ] refl

  module _ (m : map.FinMap key_cmp V) where
    pub entries-made : map.entries (map.from_sorted {R = key_cmp} (list_map made (map.entries m))) ≡ list_map made (map.entries m)
    entries-made = map.entries-from_sorted key_cmp (list_map made (map.entries m)) (subst T (sym (sorted-made (map.entries m))) (map.entries_sorted m))

    pub get-made : (k : Key) → map.get (map.from_sorted {R = key_cmp} (list_map made (map.entries m))) k ≡ option_map (f k) (map.get m k)
    get-made k = map.get-from_sorted key_cmp (list_map made (map.entries m)) k (subst T (sym (sorted-made (map.entries m))) (map.entries_sorted m))
        ∙ find-made k (map.entries m) ∙ ap (option_map (f k)) (sym (map.get-entries m k))

module _ {V W : Type 0} (f : V → W) where
  pub some-mapped : (o : Option V) → is_some (option_map f o) ≡ is_some o
  some-mapped None = refl
  some-mapped (Some v) = refl

  module _ (m : map.FinMap key_cmp V) where
    pub entries-mapped : map.entries (map_values f m) ≡ list_map (λ (e : Key × V). (e.0, f e.1)) (map.entries m)
    unfolding map_values
    entries-mapped = entries-made (λ _. f) m

    pub get-mapped : (k : Key) → map.get (map_values f m) k ≡ option_map f (map.get m k)
    unfolding map_values
    get-mapped = get-made (λ _. f) m

    pub contains-mapped : (k : Key) → map.contains_key (map_values f m) k ≡ map.contains_key m k
    contains-mapped k = ap is_some (get-mapped k) ∙ some-mapped (map.get m k)

    pub len-mapped : map.len (map_values f m) ≡ map.len m
    len-mapped = map.len-entries (map_values f m) ∙ ap length entries-mapped ∙ length-map (map.entries m) (made (λ _. f)) ∙ sym (map.len-entries m)

    pub keys-mapped : map.keys (map_values f m) ≡ map.keys m
    keys-mapped = ap (list_map (λ (e : Key × W). e.0)) entries-mapped ∙ map-map (λ (e : Key × W). e.0) (made (λ _. f)) (map.entries m)

    -- a map that finds the same is the same
    pub is_mapped : (w : map.FinMap key_cmp W) → ((q : Key) → map.get w q ≡ option_map f (map.get m q)) → map_values f m ≡ w
    is_mapped w same = map.same_map keys_total exact_keys _ _ (λ q. get-mapped q ∙ sym (same q))

  at_branch : (b : Bool) (o p : Option V) → cond b (option_map f o) (option_map f p) ≡ option_map f (cond b o p)
  at_branch true o p = refl
  at_branch false o p = refl

  pub mapped-insert : (m : map.FinMap key_cmp V) (k : Key) (v : V) → map_values f (map.insert m k v) ≡ map.insert (map_values f m) k (f v)
  mapped-insert m k v = is_mapped (map.insert m k v) _ (λ q. map.get-insert keys_total (map_values f m) k (f v) q
      ∙ ap (cond (eq_by_cmp key_cmp q k) (Some (f v))) (get-mapped m q) ∙ at_branch (eq_by_cmp key_cmp q k) (Some v) (map.get m q) ∙ ap (option_map f) (sym (map.get-insert keys_total m k v q)))

  pub mapped-remove : (m : map.FinMap key_cmp V) (k : Key) → map_values f (map.remove m k) ≡ map.remove (map_values f m) k
  mapped-remove m k = is_mapped (map.remove m k) _ (λ q. map.get-remove keys_total (map_values f m) k q
      ∙ ap (cond (eq_by_cmp key_cmp q k) None) (get-mapped m q) ∙ at_branch (eq_by_cmp key_cmp q k) None (map.get m q) ∙ ap (option_map f) (sym (map.get-remove keys_total m k q)))

  pub mapped-empty : map_values f map.empty ≡ map.empty
  mapped-empty = is_mapped map.empty map.empty (λ q. map.get-empty {X = W} key_cmp q ∙ sym (ap (option_map f) (map.get-empty {X = V} key_cmp q)))

  module _ (c : Content V) where
    pub used-mapped : used (map_content f c) ≡ used c
    used-mapped = omega (arith, len-mapped c.live)

    pub live-mapped : (k : Key) → IsLive c k → IsLive (map_content f c) k
    live-mapped k live = contains-mapped c.live k ∙ live

    pub mapped-new : IsNew c → IsNew (map_content f c)
    mapped-new new = record { live = ap (map_values f) new.live ∙ mapped-empty; detached = new.detached; retired = new.retired; next = new.next }

    -- a content with other values is one
    pub content-mapped : (reuses : Bool) → IsContent reuses c → IsContent reuses (map_content f c)
    content-mapped = shown_content c (map_values f c.live) (contains-mapped c.live) (len-mapped c.live)

  module _ (old new : Content V) where
    pub mapped-inserts : (k : Key) (v : V) → Inserts old k v new → Inserts (map_content f old) k (f v) (map_content f new)
    mapped-inserts k v inserts = shown_inserts old new _ _ (contains-mapped old.live) (len-mapped old.live) (contains-mapped new.live) (len-mapped new.live) k v (f v)
        (ap (map_values f) inserts.live ∙ mapped-insert old.live k v) inserts

    pub mapped-removes : (k : Key) → Removes old k new → Removes (map_content f old) k (map_content f new)
    mapped-removes k removes = shown_removes old new _ _ (contains-mapped old.live) (len-mapped old.live) (contains-mapped new.live) (len-mapped new.live) k
        (ap (map_values f) removes.live ∙ mapped-remove old.live k) removes

    pub mapped-keeps : Keeps old new → Keeps (map_content f old) (map_content f new)
    mapped-keeps keeps = shown_keeps old new _ _ (contains-mapped old.live) (len-mapped old.live) (contains-mapped new.live) (len-mapped new.live) (ap (map_values f) keeps.live) keeps

    pub mapped-stays : StaysValid true old new → StaysValid true (map_content f old) (map_content f new)
    mapped-stays valid = record { before = content-mapped old true valid.before; after = content-mapped new true valid.after; capacity = valid.capacity }

    pub mapped-leaves : Leaves old new → Leaves (map_content f old) (map_content f new)
    mapped-leaves = shown_leaves old new _ _ (contains-mapped old.live) (len-mapped old.live) (contains-mapped new.live) (len-mapped new.live)

    pub mapped-room : (n : ℕ) (ok : Type 0) → MakesRoom true old n ok new → MakesRoom true (map_content f old) n ok (map_content f new)
    mapped-room n ok makes = shown_makes_room old new _ _ (contains-mapped old.live) (len-mapped old.live) (contains-mapped new.live) (len-mapped new.live)
        (ap (map_values f) makes.keeps.live) true n ok makes

    -- a write, seen through f
    pub mapped-with : (k : Key) (v : V) → map_content f (with_value old k v) ≡ with_value (map_content f old) k (f v)
    mapped-with k v = ap (λ (m : map.FinMap key_cmp W). record (map_content f old) { live = m }) (mapped-insert old.live k v)

    -- a write that changes nothing of what f sees
    pub mapped-written : (k : Key) (v was : V) → map.get old.live k ≡ Some was → f v ≡ f was → new ≡ with_value old k v → map_content f new ≡ map_content f old
    mapped-written k v was there same is = ap (map_content f) is ∙ ap (λ (m : map.FinMap key_cmp W). record (map_content f old) { live = m })
        (is_mapped (map.insert old.live k v) (map_values f old.live) (λ q. elim (same_or_other q k) [
          | inl at ↦ rw at (get-mapped old.live k ∙ ap (option_map f) there ∙ ap Some (sym same) ∙ sym (ap (option_map f) (get-insert_here old.live k v)))
          | inr other ↦ get-mapped old.live q ∙ sym (ap (option_map f) (get-insert_other old.live k v q other))
        ]))

  -- clones of values, and of what f makes of them
  pub mapped-clones : (is_clone : V → V → Type 0) (clones : W → W → Type 0) → ((v w : V) → is_clone v w → clones (f v) (f w)) → (old new : Content V)
      → IsCloneBy is_clone old new → IsCloneBy clones (map_content f old) (map_content f new)
  mapped-clones is_clone clones so old new are = record {
    live = λ k. rw (get-mapped old.live k, get-mapped new.live k) (by (map.get old.live k) (map.get new.live k) (are.live k));
    detached = are.detached;
    retired = are.retired;
    next = are.next;
    offer = are.offer;
    stack = are.stack;
  }
    where
      by : (o p : Option V) → IsCloneOf is_clone o p → IsCloneOf clones (option_map f o) (option_map f p)
      by None p is = ap (option_map f) is
      by (Some v) None is = is
      by (Some v) (Some w) is = so v w is

-- what is found, and how much, where each value is another
pub ruleset mapped = (get-mapped, contains-mapped, len-mapped, keys-mapped)
