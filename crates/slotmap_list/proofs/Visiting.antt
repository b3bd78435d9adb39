-- A loop that visits the elements from front to back, and keeps or removes each.
use Rattle.slotmap_list.proofs.Common.{◌∙◌, append_assoc, append-nil, KeepsSpent, leaves_in_turn, leaves_none, same_or_other, Sequence, memory}
use Rattle.slotmap_list.proofs.Common.{value_of, first_or, key_after, from_key, with_value_at, ℕ, length, arith, Bool, true, false, cond, List, []}
use Rattle.slotmap_list.proofs.Common.{Option, Some, None, IsSome, is_some, inl, inr, refl, sym, subst, Key, IsSpent, Leaves, without, IsOnce, ap}
use Rattle.std.proofs.Common.{◌≡◌, ◌<◌, ◌+◌, ◌∷◌, ◌++◌}
use Rattle.std.specs.Fn.{Mut, Called, Takes}
use Rattle.std.specs.Borrow.{MutBor}
use Rattle.slotmap_list.specs.Retain.{RetainsOne, RetainsEach, CallableInOrder}
use Rattle.slotmap_list.proofs.Elements.{once-written, one_other, times, times-append, times_none, none_there, absent_before, once_drop, front_of, no_first, splits}
use denote.Param.Always.{always_mut, mut_next}

module _ {T : Type 0} where
  -- how many elements there are from a key on
  abbrev pub ahead : Option Key → List (Key × T) → ℕ
  ahead None es = 0
  ahead (Some k) es = length (from_key k es)

  ahead-first : (ys zs : List (Key × T)) → IsOnce (ys ++ zs) → ahead (first_or zs None) (ys ++ zs) ≡ length zs
  ahead-first ys [] once = refl
  ahead-first ys (z ∷ zs) once = ap length (splits z.0 z.1 zs ys (absent_before ys z.0 z.1 zs once).0).from_is

module _ {F K T : Type 0} {g : Mut F (K × (MutBor T × Unit {0})) (Bool × (MutBor T × Unit {0}))} {data_of : K → Key} where
  each_push : (f : F) (es left : List (Key × T)) (f' : F) (e : Key × T) (more : List (Key × T)) (f'' : F) → RetainsEach g data_of f es left f' → RetainsOne g data_of f' e more f''
      → RetainsEach g data_of f (es ++ e ∷ []) (left ++ more) f''
  each_push f [] left f' e more f'' all one = (more, f'', [], subst (λ x. RetainsOne g data_of x e more f'') all.1 one, (refl, refl), ap (λ l. l ++ more) all.0 ∙ sym (append-nil more))
  each_push f (x ∷ es) left f' e more f'' all one =
      (all.0, all.1, all.2 ++ more, all.3, each_push all.1 es all.2 f' e more f'' all.4 one, ap (λ l. l ++ more) all.5 ∙ append_assoc all.0 all.2 more)

module _ {F K T : Type 0} (g : Mut F (K × (MutBor T × Unit {0})) (Bool × (MutBor T × Unit {0}))) (data_of : K → Key) where
  -- some elements were visited, and the others are ahead
  pub record Retaining (old : Sequence T) (f : F) (now : Sequence T) (at : Option Key) (f' : F) : Type 0 where
    pub done : List (Key × T)
    pub left : List (Key × T)
    pub rest : List (Key × T)
    pub old_is : old.elements ≡ done ++ rest
    pub now_is : now.elements ≡ left ++ rest
    pub visited : RetainsEach g data_of f done left f'
    pub at_is : at ≡ first_or rest None
    pub for_good : (k : Key) → IsSome (value_of k old.elements) → value_of k now.elements ≡ None → IsSpent now.cursors k
    pub gone : KeepsSpent old.cursors now.cursors
    pub leaves : Leaves old.cursors now.cursors
    pub capacity : memory now ≡ memory old

  pub retaining_start : (old : Sequence T) (f : F) (at : Option Key) → at ≡ first_or old.elements None → Retaining old f old at f
  retaining_start old f at is = record {
    done = [];
    left = [];
    rest = old.elements;
    old_is = refl;
    now_is = refl;
    visited = (refl, refl);
    at_is = is;
    for_good = λ k there none. absurd (let h = ap is_some none in cc);
    gone = λ k spent. spent;
    leaves = leaves_none old.cursors;
    capacity = refl;
  }

  pub retaining_end : (old : Sequence T) (f : F) (now : Sequence T) (f' : F) → Retaining old f now None f' → RetainsEach g data_of f old.elements now.elements f'
  retaining_end old f now f' r = let none = no_first r.rest (sym r.at_is) in let old_is : old.elements ≡ r.done = r.old_is ∙ ap (λ l. r.done ++ l) none ∙ append-nil r.done in
      let now_is : now.elements ≡ r.left = r.now_is ∙ ap (λ l. r.left ++ l) none ∙ append-nil r.left in rw (old_is, now_is) r.visited

-- a step: the element of k is visited
module _ {F K T : Type 0} {g : Mut F (K × (MutBor T × Unit {0})) (Bool × (MutBor T × Unit {0}))} {data_of : K → Key}
    {old : Sequence T} {f : F} {now : Sequence T} {k : Key} {f' : F} (r : Retaining g data_of old f now (Some k) f') (once : IsOnce now.elements) where
  here : (v : T) × (es : List (Key × T)) × (r.rest ≡ (k, v) ∷ es)
  here = front_of r.rest k (sym r.at_is)

  now_here : now.elements ≡ r.left ++ (k, here.0) ∷ here.1
  now_here = r.now_is ∙ ap (λ l. r.left ++ l) here.2

  apart : times k r.left ≡ 0
  apart = (absent_before r.left k here.0 here.1 (subst IsOnce now_here once)).0

  -- it stands
  stands : value_of k now.elements ≡ Some here.0
  stands = ap (value_of k) now_here ∙ (splits k here.0 here.1 r.left apart).value_is

  pub retaining_stands : IsSome (value_of k now.elements)
  retaining_stands = ap is_some stands

  old_here : old.elements ≡ r.done ++ (k, here.0) ∷ here.1
  old_here = r.old_is ∙ ap (λ l. r.done ++ l) here.2

  shown_is : (v : T) → value_of k now.elements ≡ Some v → v ≡ here.0
  shown_is v shows = let e = sym shows ∙ stands in (cc)

  module _ {key : K} {shown : MutBor T} (is : data_of key ≡ k) (shows : value_of k now.elements ≡ Some shown.now) where
    -- the closure may be called for it
    pub retaining_takes : CallableInOrder g data_of f old.elements → Takes g f' (key, (shown, tt))
    retaining_takes callable = callable.at r.done (k, here.0) here.1 r.left f' key shown old_here r.visited is (shown_is shown.now shows)

    module _ {f'' : F} {stays : Bool} {after : MutBor T} (called : Called g f' (key, (shown, tt)) (stays, (after, tt)) f'') {next : Option Key} (goes : next ≡ key_after k now.elements) where
      next_is : next ≡ first_or here.1 None
      next_is = goes ∙ ap (key_after k) now_here ∙ (splits k here.0 here.1 r.left apart).after_is

      one : RetainsOne g data_of f' (k, here.0) (cond stays ((k, after.now) ∷ []) []) f''
      one = record { key = key; at = is; shown = shown; shows = shown_is shown.now shows; stays = stays; after = after; called = called; left_is = refl }

      written : with_value_at k after.now now.elements ≡ r.left ++ (k, after.now) ∷ here.1
      written = ap (with_value_at k after.now) now_here ∙ (splits k here.0 here.1 r.left apart).write_is after.now

      pub written_stands : IsSome (value_of k (with_value_at k after.now now.elements))
      written_stands = ap is_some (ap (value_of k) written ∙ (splits k after.now here.1 r.left apart).value_is)

      ahead_here : ahead (Some k) now.elements ≡ length here.1 + 1
      ahead_here = let e : ahead (Some k) now.elements ≡ length ((k, here.0) ∷ here.1) = ap (ahead (Some k)) now_here ∙ ahead-first r.left ((k, here.0) ∷ here.1)
          (subst IsOnce now_here once) in omega arith

      -- these elements are left before those ahead, which are one less
      ahead_less : (new left : List (Key × T)) → new ≡ left ++ here.1 → IsOnce new → ahead next new < ahead (Some k) now.elements
      ahead_less new left new_is single = let long : ahead next new ≡ length here.1 = ap (λ o. ahead o new) next_is ∙ ap (ahead (first_or here.1 None)) new_is
          ∙ ahead-first left here.1 (subst IsOnce new_is single) in omega (arith, ahead_here)

      kept_is : with_value_at k after.now now.elements ≡ (r.left ++ (k, after.now) ∷ []) ++ here.1
      kept_is = written ∙ sym (append_assoc r.left ((k, after.now) ∷ []) here.1)

      pub kept_less : ahead next (with_value_at k after.now now.elements) < ahead (Some k) now.elements
      kept_less = ahead_less (with_value_at k after.now now.elements) (r.left ++ (k, after.now) ∷ []) kept_is (once-written k after.now now.elements once)

      dropped_is : {new : List (Key × T)} → new ≡ without k (with_value_at k after.now now.elements) → new ≡ r.left ++ here.1
      dropped_is removed = removed ∙ ap (without k) written ∙ (splits k after.now here.1 r.left apart).without_is

      pub dropped_less : {new : List (Key × T)} → new ≡ without k (with_value_at k after.now now.elements) → ahead next new < ahead (Some k) now.elements
      dropped_less {new} removed = ahead_less new r.left (dropped_is removed) (subst IsOnce (sym (dropped_is removed)) (once_drop r.left (k, here.0) here.1 (subst IsOnce now_here once)))

      -- one more element was visited: k is left, or it is gone for good
      step : {new : Sequence T} (more : List (Key × T)) → RetainsOne g data_of f' (k, here.0) more f'' → new.elements ≡ (r.left ++ more) ++ here.1
          → (value_of k new.elements ≡ None → IsSpent new.cursors k) → KeepsSpent now.cursors new.cursors → Leaves now.cursors new.cursors → memory new ≡ memory now
          → Retaining g data_of old f new next f''
      step {new} more visit new_is for_good keeps leaves capacity = record {
        done = r.done ++ (k, here.0) ∷ [];
        left = r.left ++ more;
        rest = here.1;
        old_is = old_here ∙ sym (append_assoc r.done ((k, here.0) ∷ []) here.1);
        now_is = new_is;
        visited = each_push f r.done r.left f' (k, here.0) more f'' r.visited visit;
        at_is = next_is;
        for_good = λ u there none. (elim (same_or_other u k) [
          | inl is ↦ subst (IsSpent new.cursors) (sym is) (for_good (ap (λ q. value_of q new.elements) (sym is) ∙ none))
          | inr other ↦ keeps u (r.for_good u there (ap (value_of u) now_here ∙ none_there u (r.left ++ (k, here.0) ∷ here.1) (
              let gone = times_none u new.elements none in
              let all = ap (times u) new_is ∙ times-append u (r.left ++ more) here.1 in
              let part = times-append u r.left more in
              let before = times-append u r.left ((k, here.0) ∷ here.1) in
              let first = one_other u k other in
              omega arith)))
        ]);
        gone = λ u s. keeps u (r.gone u s);
        leaves = leaves_in_turn old.cursors now.cursors new.cursors r.leaves leaves;
        capacity = capacity ∙ r.capacity;
      }

      pub retaining_kept : stays ≡ true → Retaining g data_of old f (record now { elements = with_value_at k after.now now.elements }) next f''
      retaining_kept keep = step ((k, after.now) ∷ []) (subst (λ b. RetainsOne g data_of f' (k, here.0) (cond b ((k, after.now) ∷ []) []) f'') keep one) kept_is
          (λ none. absurd (let some = written_stands in let h = sym (ap is_some none) ∙ some in cc)) (λ u spent. spent) (leaves_none now.cursors) refl

      pub retaining_dropped : {new : Sequence T} → stays ≡ false → new.elements ≡ without k (with_value_at k after.now now.elements) → IsSpent new.cursors k
          → KeepsSpent now.cursors new.cursors
          → Leaves now.cursors new.cursors → memory new ≡ memory now → Retaining g data_of old f new next f''
      retaining_dropped drop removed spent keeps leaves capacity = step [] (subst (λ b. RetainsOne g data_of f' (k, here.0) (cond b ((k, after.now) ∷ []) []) f'') drop one)
          (dropped_is removed ∙ ap (λ l. l ++ here.1) (sym (append-nil r.left))) (λ _. spent) keeps leaves capacity

-- a closure that can always be called
module _ {F K T : Type 0} (g : Mut F (K × (MutBor T × Unit {0})) (Bool × (MutBor T × Unit {0}))) (data_of : K → Key) where
  still_callable : (f : F) (es left : List (Key × T)) (f' : F) → always_mut g f → RetainsEach g data_of f es left f' → always_mut g f'
  still_callable f [] left f' always all = subst (always_mut g) (sym all.1) always
  still_callable f (e ∷ es) left f' always all = still_callable all.1 es all.2 f' (mut_next g f _ _ all.1 all.1 all.3.called refl always) all.4

  pub callable_in_order : (f : F) (es : List (Key × T)) → always_mut g f → CallableInOrder g data_of f es
  callable_in_order f es always = record { at = λ before e after left f' key shown is visited at shows. ((still_callable f before left f' always visited).at ((key, (shown, tt)) ∷ [])).0 }
