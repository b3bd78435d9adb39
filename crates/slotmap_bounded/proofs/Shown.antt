-- What is known of a content, and of how a call changes it, where it has other live values under the same keys.
use Rattle.std.proofs.Common.{◌≡◌, ◌≤◌, ℕ, ◌&&◌, ◌||◌, Bool, List, Some, not, sym, ap, ◌∙◌, inl, inr, arith}
use Rattle.slotmap.specs.Words.{Key, key_cmp, Content, IsContent, IsSpent, Inserts, Removes, Keeps, Leaves, MakesRoom, is_last}
use Rattle.slotmap_bounded.specs.Mapped.{with_live}
use Rattle.std.specs.FinMap as map
use Rattle.std.specs.FinSet as set

-- a content with other live values under the same keys
module _ {V W : Type 0} (c : Content V) (m : map.FinMap key_cmp W) (same : (q : Key) → map.contains_key m q ≡ map.contains_key c.live q) (len : map.len m ≡ map.len c.live) where
  pub shown_spent : (k : Key) → IsSpent c k → IsSpent (with_live c m) k
  shown_spent k spent = grind (arith, same)

  pub shown_content : (reuses : Bool) → IsContent reuses c → IsContent reuses (with_live c m)
  shown_content reuses well =
      let lists = λ (stack : List ℕ) (at : c.stack ≡ Some stack). (well.stacked stack at).lists in
      let once = λ (stack : List ℕ) (at : c.stack ≡ Some stack). (well.stacked stack at).once in
      let top = λ (stack : List ℕ) (at : c.stack ≡ Some stack). (well.stacked stack at).top in
      grind (arith, same, lists, once, top)

-- before a call, and after it
module _ {V W : Type 0} (old new : Content V) (was now : map.FinMap key_cmp W)
    (same_was : (q : Key) → map.contains_key was q ≡ map.contains_key old.live q) (len_was : map.len was ≡ map.len old.live)
    (same_now : (q : Key) → map.contains_key now q ≡ map.contains_key new.live q) (len_now : map.len now ≡ map.len new.live) where
  shown_left : (k : Key) → (map.contains_key old.live k && not (map.contains_key new.live k)) ≡ (map.contains_key was k && not (map.contains_key now k))
  shown_left k = ap (λ b. b && not (map.contains_key new.live k)) (sym (same_was k)) ∙ ap (λ b. map.contains_key was k && not b) (sym (same_now k))

  pub shown_leaves : Leaves old new → Leaves (with_live old was) (with_live new now)
  shown_leaves leaves = record {
    no_more = λ k live. same_was k ∙ leaves.no_more k (sym (same_now k) ∙ live);
    detached = leaves.detached;
    retired = λ k. leaves.retired k ∙ ap (λ b. set.contains old.retired k || b && is_last k) (shown_left k);
    next = λ i v. (let step = leaves.next i v in (
      λ found. elim (step.0 found) [ inl before ↦ inl before | inr left ↦ inr (left.0, sym (shown_left left.0) ∙ left.1, left.2, left.3, left.4) ],
      λ either. step.1 (elim either [ inl before ↦ inl before | inr left ↦ inr (left.0, shown_left left.0 ∙ left.1, left.2, left.3, left.4) ]),
    ));
    same_places = omega (arith, leaves.same_places);
    room = leaves.room;
  }

  pub shown_inserts : (k : Key) (v : V) (w : W) → now ≡ map.insert was k w → Inserts old k v new → Inserts (with_live old was) k w (with_live new now)
  shown_inserts k v w live inserts = grind arith

  pub shown_removes : (k : Key) → now ≡ map.remove was k → Removes old k new → Removes (with_live old was) k (with_live new now)
  shown_removes k live removes = grind arith

  pub shown_keeps : now ≡ was → Keeps old new → Keeps (with_live old was) (with_live new now)
  shown_keeps live keeps = grind arith

  pub shown_makes_room : now ≡ was → (reuses : Bool) (n : ℕ) (ok : Type 0) → MakesRoom reuses old n ok new → MakesRoom reuses (with_live old was) n ok (with_live new now)
  shown_makes_room live reuses n ok makes =
      let before = shown_content old was same_was len_was reuses makes.before in
      let after = shown_content new now same_now len_now reuses makes.after in
      let keeps = shown_keeps live makes.keeps in
      let had_room : n ≤ old.room → with_live new now ≡ with_live old was = λ more. (λ i. with_live (makes.had_room more i) (live i)) in
      grind (arith, had_room)
