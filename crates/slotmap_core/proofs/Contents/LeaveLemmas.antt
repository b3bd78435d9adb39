-- Keys are removed, one after the other.
-- For the crates of maps and callers.
use Rattle.std.proofs.Common.{◌≡◌, ◌≤◌, Bool, true, false, cond, not, ◌&&◌, inl, inr, None, is_some, refl, sym, ap, ◌∙◌, arith}
use Rattle.slotmap_core.specs.Words.{eq_by_cmp, Key, next_version, key_cmp, Content, IsContent, IsLive, Removes, Leaves, Keeps, has_left, with_value}
use Rattle.slotmap_core.proofs.General.KeyLemmas.{keys_total, exact_keys, tied, itself, nat_cmp_total, exact_unsigned}
use Rattle.slotmap_core.proofs.General.Maps.{of_and, of_not, not_of, get_inserted, in_after_remove}
use Rattle.slotmap_core.proofs.Places.PlaceCount.{removed_places}
use Rattle.slotmap_core.proofs.Contents.Retired.{in_freed, len_freed}
use Rattle.std.specs.FinMap as map
use Rattle.std.specs.FinSet as set

module _ {V : Type 0} where
  pub was_live : (old new : Content V) (k : Key) → has_left old new k ≡ true → IsLive old k
  was_live old new k left = (of_and (map.contains_key old.live k) (not (map.contains_key new.live k)) left).0

  pub is_gone : (old new : Content V) (k : Key) → has_left old new k ≡ true → IsLive new k → ⊥
  is_gone old new k left there = of_not (map.contains_key new.live k) (of_and (map.contains_key old.live k) (not (map.contains_key new.live k)) left).1 there

  has_left_if : (old new : Content V) (k : Key) → IsLive old k → (IsLive new k → ⊥) → has_left old new k ≡ true
  has_left_if old new k was gone = ap (λ b. b && not (map.contains_key new.live k)) was ∙ not_of (map.contains_key new.live k) gone

  -- if the same keys are live, none was removed
  Leaves-same : (a b : Content V) → ((q : Key) → map.contains_key b.live q ≡ map.contains_key a.live q) → map.len b.live ≡ map.len a.live
      → b.detached ≡ a.detached → b.retired ≡ a.retired → b.next ≡ a.next → a.room ≤ b.room → Leaves a b
  Leaves-same a b live len detached retired next room = grind arith

  pub Leaves-refl : (c : Content V) → Leaves c c
  Leaves-refl c = Leaves-same c c (λ q. refl) refl refl refl refl (omega arith)

  pub Leaves-keeps : (a b : Content V) → Keeps a b → Leaves a b
  Leaves-keeps a b same = Leaves-same a b (λ q. ap (λ m. map.contains_key m q) same.live) (ap map.len same.live) same.detached same.retired same.next same.room

  pub same_live : (c : Content V) (k : Key) (w : V) → IsLive c k → (q : Key) → map.contains_key (map.insert c.live k w) q ≡ map.contains_key c.live q
  same_live c k w is_live q = grind (arith, map.get-insert keys_total c.live k w q, tied keys_total exact_keys q k)

  pub Leaves-with_value : (c : Content V) (k : Key) (w : V) → IsLive c k → Leaves c (with_value c k w)
  Leaves-with_value c k w is_live = grind (arith, Leaves-same, same_live, map.len-insert, keys_total)

  pub Leaves-trans : (a b c : Content V) → Leaves a b → Leaves b c → Leaves a c
  Leaves-trans a b c first second = record {
    no_more = λ q there. first.no_more q (second.no_more q there);
    detached = second.detached ∙ first.detached;
    retired = λ q. grind (arith, second.retired q, first.retired q, first.no_more q, second.no_more q);
    next = λ i v. (
      grind (arith, second.next i v, first.next i v),
      grind (arith, second.next i v, first.next i v),
    );
    same_places = second.same_places ∙ first.same_places;
    room = omega (arith, first.room, second.room);
  }

  -- what is live once k is removed
  pub live-removed_at : (b c : Content V) (k : Key) → Removes b k c → (q : Key) → map.get c.live q ≡ cond (eq_by_cmp key_cmp q k) None (map.get b.live q)
  live-removed_at b c k removes q = ap (λ m. map.get m q) removes.live ∙ map.get-remove keys_total b.live k q

  pub live_no_more : (b c : Content V) (k : Key) → Removes b k c → map.contains_key c.live k ≡ false
  live_no_more b c k removes = ap is_some (live-removed_at b c k removes k ∙ ap (λ t. cond t None (map.get b.live k)) (itself keys_total exact_keys k))

  module _ (reuses : Bool) (b : Content V) (well : IsContent reuses b) (k : Key) (is_live : IsLive b k) (c : Content V) (removes : Removes b k c) where
    -- a removal removes one key
    pub Leaves-removes : Leaves b c
    Leaves-removes = record {
      no_more = λ q there. (in_after_remove keys_total exact_keys b.live k q (sym (ap (λ m. map.contains_key m q) removes.live) ∙ there)).1;
      detached = removes.detached;
      retired = λ q.
          grind (
            arith,
            ap (λ s. set.contains s q) removes.retired,
            set.contains-insert keys_total b.retired k q,
            live-removed_at b c k removes q,
            tied keys_total exact_keys q k,
            itself keys_total exact_keys k,
          );
      next = λ i v. (
        grind (arith, has_left_if, live_no_more, in_freed),
        λ h. ap (λ m. map.get m i) removes.next ∙ elim h [
          | inl there ↦ grind (arith, map.get-insert nat_cmp_total b.next k.index (next_version k) i, tied nat_cmp_total exact_unsigned i k.index, well.not_used_and_vacant k (inl (inl is_live)))
          | inr w ↦
              grind (arith, live-removed_at b c k removes w.0, tied keys_total exact_keys w.0 k, get_inserted nat_cmp_total exact_unsigned b.next k.index (next_version k))
        ],
      );
      same_places = removed_places reuses b c well k is_live removes;
      room = omega (arith, removes.room, ap map.len removes.next, len_freed k b.next);
    }

    pub Leaves-removed : (a : Content V) → Leaves a b → Leaves a c
    Leaves-removed a before = Leaves-trans a b c before Leaves-removes
