-- Many values that are added at the back.
use Rattle.std.specs.FinMap as map
use Rattle.std.specs.FinSet as set
use Rattle.slotmap_list.proofs.Common.{IsErr, append_assoc, append-nil, length-append, KeepsSpent, keys_total, exact_keys, leaves_in_turn, leaves_none}
use Rattle.slotmap_list.proofs.Common.{key_before, put_before, TakesFront, FullAtLimit, [], length, list_map, IsSome, is_some, Result, ◌∙◌, key_cmp}
use Rattle.slotmap_list.proofs.Common.{Content, IsSpent, Inserts, Leaves, Sequence, memory, value_of, last_or, key_after, put_after, refused, ℕ, zero, suc}
use Rattle.slotmap_list.proofs.Common.{List, Some, None, Ok, Err, IsOk, IfOk, OnOk, inl, inr, refl, sym, ap, subst, arith, Key, IsNew, Keeps, used, tied, Adds}
use Rattle.std.proofs.Common.{◌<◌, ◌≡◌, ◌≤◌, ◌⊎◌, ◌∷◌, ◌++◌, ◌+◌}
use Rattle.std.proofs.lemmas.List.{map-append}
use Rattle.slotmap_list.specs.declared.PushError.{PushError}
use Rattle.slotmap_list.specs.declared.PushError.TheVariants.{Full, Memory}
use Rattle.slotmap_list.specs.Refused.{RefusesPush}
use Rattle.slotmap_list.proofs.Callers.{put_after_next, put_before_prev, pushed_last}

-- what a call ensures of its result, where it succeeds
pub ok_so : {A E : Type 0} (r : Result A E) (P Q : A → Type 0) → IsOk r → IfOk r P → IfOk r Q → (x : A) × P x × Q x
ok_so (Ok x) P Q ok p q = (x, p, q)
ok_so (Err e) P Q ok p q = absurd (cc)

-- where a call fails that can't fail with room, there is none
pub no_room : {A E : Type 0} (n : ℕ) (r : Result A E) → IsErr r → (0 < n → IsOk r) → n ≡ 0
no_room zero r err fits = refl
no_room (suc n) (Ok x) err fits = absurd (cc)
no_room (suc n) (Err e) err fits = absurd (let ok = fits (omega arith) in cc)

-- as many slots are in use where a call keeps the content, and none in a new map
pub used_kept : (old new : Content (Unit {0})) → Keeps old new → used new ≡ used old
used_kept old new keeps = omega (arith, ap map.len keeps.live, ap set.len keeps.detached, ap set.len keeps.retired)

pub used_new : (c : Content (Unit {0})) → IsNew c → used c ≡ 0
used_new c new = omega (arith, ap map.len new.live ∙ map.len-empty key_cmp (Unit {0}), ap set.len new.detached ∙ set.len-empty key_cmp, ap set.len new.retired ∙ set.len-empty key_cmp)

module _ {T : Type 0} where
  pub refused_is : (cursors : Content (Unit {0})) (v : T) (error : PushError T) → RefusesPush cursors v error → refused error ≡ v
  refused_is cursors v (Full back) is = is.1
  refused_is cursors v (Memory back) is = is.1

  -- a refused push leaves as many keys as there were
  pub full_after : (old new : Content (Unit {0})) (v : T) (error : PushError T) → RefusesPush old v error → Keeps old new → FullAtLimit new error
  full_after old new v (Full back) is keeps = omega (arith, is.0, used_kept old new keeps)
  full_after old new v (Memory back) is keeps = omega (arith, is.0.below_limit, used_kept old new keeps)

  -- a new element stands at the back, or beside the one that was named
  module _ {K E : Type 0} (data_of : K → Key) (v : T) (old new : List (Key × T)) where
    pub pushed_behind : (r : Result K E) → IfOk r (λ key. new ≡ old ++ (data_of key, v) ∷ []) → IfOk r (λ key. last_or new None ≡ Some (data_of key))
    pushed_behind (Ok key) is = ap (λ es. last_or es None) is ∙ pushed_last (data_of key, v) old
    pushed_behind (Err e) is = is

    pub put_next : (r : Result K E) (k : Key) → OnOk r (IsSome (value_of k old)) → IfOk r (λ key. new ≡ put_after k (data_of key, v) old)
        → IfOk r (λ key. key_after k new ≡ Some (data_of key))
    put_next (Ok key) k there is = ap (key_after k) is ∙ put_after_next k (data_of key, v) old there
    put_next (Err e) k there is = is

    pub put_prev : (r : Result K E) (k : Key) → OnOk r (IsSome (value_of k old)) → IfOk r (λ key. value_of (data_of key) old ≡ None)
        → IfOk r (λ key. new ≡ put_before k (data_of key, v) old) → IfOk r (λ key. key_before None k new ≡ Some (data_of key))
    put_prev (Ok key) k there fresh is = ap (key_before None k) is
        ∙ put_before_prev k (data_of key, v) None old there (λ same. (let h = ap is_some (ap (λ q. value_of q old) same ∙ fresh) in cc))
    put_prev (Err e) k there fresh is = is

  abbrev pub values : List (Key × T) → List T
  values es = list_map (λ e. e.1) es

  Adds-start : (es : List (Key × T)) → Adds es [] es
  Adds-start es = record { added = []; behind = sym (append-nil es); values_are = refl }

  pub Adds-push : (old mid new : List (Key × T)) (vs : List T) (k : Key) (v : T) → Adds old vs mid → new ≡ mid ++ (k, v) ∷ [] → Adds old (vs ++ v ∷ []) new
  Adds-push old mid new vs k v adds is = record {
    added = adds.added ++ (k, v) ∷ [];
    behind = is ∙ ap (λ l. l ++ (k, v) ∷ []) adds.behind ∙ append_assoc old adds.added ((k, v) ∷ []);
    values_are = map-append (λ e. e.1) adds.added ((k, v) ∷ []) ∙ ap (λ l. l ++ v ∷ []) adds.values_are;
  }

  -- a list that was empty has the values
  pub Adds-anew : (vs : List T) (new : List (Key × T)) → Adds [] vs new → values new ≡ vs
  Adds-anew vs new adds = ap values adds.behind ∙ adds.values_are

  -- some elements of another list were moved here, and the others are ahead
  pub record Moving (old old_other now other : Sequence T) : Type 0 where
    pub moved : List T
    pub adds : Adds old.elements moved now.elements
    pub ahead : moved ++ values other.elements ≡ values old_other.elements
    pub room : length other.elements ≤ now.cursors.room
    pub used : used now.cursors ≡ used old.cursors + length moved
    pub room_left : old.cursors.room ≤ now.cursors.room + length moved
    pub capacity : old.cursors.capacity ≤ now.cursors.capacity
    pub gone : KeepsSpent old.cursors now.cursors
    pub gone_other : KeepsSpent old_other.cursors other.cursors
    pub in_place : length old_other.elements ≤ old.cursors.room → memory now ≡ memory old
    pub leaves_other : Leaves old_other.cursors other.cursors
    pub capacity_other : memory other ≡ memory old_other
    pub taken : (k : Key) → IsSome (value_of k old_other.elements) → IsSome (value_of k other.elements) ⊎ IsSpent other.cursors k

  pub moving_start : (old now other : Sequence T) → now.elements ≡ old.elements → length other.elements ≤ now.cursors.room → Keeps old.cursors now.cursors
      → old.cursors.capacity ≤ now.cursors.capacity → KeepsSpent old.cursors now.cursors
      → (length other.elements ≤ old.cursors.room → memory now ≡ memory old) → Moving old other now other
  moving_start old now other same room keeps capacity gone in_place = record {
    moved = [];
    adds = subst (Adds old.elements []) (sym same) (Adds-start old.elements);
    ahead = refl;
    room = room;
    used = omega (arith, used_kept old.cursors now.cursors keeps);
    room_left = omega (arith, keeps.room);
    capacity = capacity;
    gone = gone;
    gone_other = λ k spent. spent;
    in_place = in_place;
    leaves_other = leaves_none other.cursors;
    capacity_other = refl;
    taken = λ k there. inl there;
  }

  stands_or_first : (k : Key) (v : T) (es : List (Key × T)) (q : Key) → IsSome (value_of q ((k, v) ∷ es)) → IsSome (value_of q es) ⊎ (q ≡ k)
  stands_or_first k v es q there = grind (arith, tied keys_total exact_keys q k)

  -- when the first element is taken out, each cursor of the old list still stands, or is spent
  pub left_or_spent : (old new : Sequence T) (k : Key) (v : T) → old.elements ≡ (k, v) ∷ new.elements → IsSpent new.cursors k → (u : Key) → IsSome (value_of u old.elements)
      → IsSome (value_of u new.elements) ⊎ IsSpent new.cursors u
  left_or_spent old new k v takes spent u there = elim (stands_or_first k v new.elements u (subst (λ l. IsSome (value_of u l)) takes there)) [
    | inl still ↦ inl still
    | inr is ↦ inr (subst (IsSpent new.cursors) (sym is) spent)
  ]

  pub moving_step : (old old_other now other next next_other : Sequence T) (k q : Key) (v : T) → Moving old old_other now other
      → TakesFront other.elements (Some (k, v)) next_other.elements → IsSpent next_other.cursors k → KeepsSpent other.cursors next_other.cursors
      → Leaves other.cursors next_other.cursors → memory next_other ≡ memory other → memory next ≡ memory now
      → next.elements ≡ now.elements ++ (q, v) ∷ [] → Inserts now.cursors q tt next.cursors → used next.cursors ≡ used now.cursors + 1 → KeepsSpent now.cursors next.cursors
      → Moving old old_other next next_other
  moving_step old old_other now other next next_other k q v m takes spent keeps_other leaves_other capacity_other in_place adds inserts more keeps = record {
    moved = m.moved ++ v ∷ [];
    adds = Adds-push old.elements now.elements next.elements m.moved q v m.adds adds;
    ahead = append_assoc m.moved (v ∷ []) (values next_other.elements) ∙ ap (λ l. m.moved ++ l) (sym (ap values takes)) ∙ m.ahead;
    room = omega (arith, ap length takes, inserts.room, m.room);
    used = omega (arith, length-append m.moved (v ∷ []), more, m.used);
    room_left = omega (arith, length-append m.moved (v ∷ []), inserts.room, m.room_left);
    capacity = omega (arith, ap (λ (x : (ℕ × ℕ) × (ℕ × ℕ)). x.0.1) in_place, m.capacity);
    gone = λ u s. keeps u (m.gone u s);
    gone_other = λ u s. keeps_other u (m.gone_other u s);
    in_place = λ fits. in_place ∙ m.in_place fits;
    leaves_other = leaves_in_turn old_other.cursors other.cursors next_other.cursors m.leaves_other leaves_other;
    capacity_other = capacity_other ∙ m.capacity_other;
    taken = λ u there. elim (m.taken u there) [ inl here ↦ left_or_spent other next_other k v takes spent u here | inr gone ↦ inr (keeps_other u gone) ];
  }
