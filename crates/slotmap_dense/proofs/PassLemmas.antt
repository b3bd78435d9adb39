-- What a pass over the pairs of a map is where they are held in another way, and what it leaves of the map.
use Rattle.std.specs.FinMap as map
use Rattle.std.proofs.Common.{◌≡◌, ◌+◌, ◌≤◌, ◌∷◌, ◌++◌, ◌<◌, arith, option_map, ℕ, Bool, true, false, cond, inl, inr, List, [], append-nil, length, set, drop, get_or}
use Rattle.slotmap_core.specs.Words.{MutBor, Vec}
use Rattle.slotmap_core.proofs.Common.{CallableOnEach, map as list_map, slice_get, slice_get_read, slice_get-map, slice_get-get_or, slice_get_within, Leaves-with_value, Leaves-removed, CallsAt-called}
use Rattle.slotmap_core.proofs.Common.{with_items, ◌∙◌, FoldsTo-push, length-set, remove-insert, Leaves-refl, Leaves-trans, Visits-start, Visits-call, Visits-rest, Visits-listed, Visits-stay}
use Rattle.slotmap_core.proofs.Common.{Mut, Called, FoldsTo, Content, Key, Visit, CallsAt, Leaves, Some, is_some, refl, sym, ap, subst, take_at, same_live, Visits}
use Rattle.slotmap_dense.specs.Pass.{Stage, stage, Holding, Calls, Stays, Rejects, Passes, MayPass, beside, packed_order}
use Rattle.slotmap_dense.specs.Dense.{Dense, IsDense, with_value_of}
use Rattle.slotmap_dense.specs.Packed.{IsSound, dense_of, at_position}
use Rattle.slotmap_dense.specs.{Retain.RetainsPacked, Rest.rest_of, Rest.LeavesFrom}
use Rattle.slotmap_dense.proofs.PackedLemmas.{get-packed}
use Rattle.slotmap_dense.proofs.RetainLemmas.{SoFar-start, SoFar-dropped, SoFar, SoFar-kept}
use Rattle.slotmap_dense.proofs.WellFormed.{IsSound-other, dense-written, IsDense-with_value}
use Rattle.slotmap_dense.proofs.RestLemmas.{Comes-at, rest-start, rest-end}

-- what is held in one way is held in another too
pub record Lifts {D E K V : Type 0} (a : Holding D K V) (b : Holding E K V) (lift : D → E) (Holds : D → Type 0) : Type 0 where
  pub shows : (d : D) (p : ℕ) (key : K) (v : V) → Holds d → a.Shows d p key v → b.Shows (lift d) p key v
  pub puts : (d : D) (p : ℕ) (key : K) (v w : V) → Holds d → a.Shows d p key v → lift (a.put d p key w) ≡ b.put (lift d) p key w
  pub still : (d : D) (p : ℕ) (key : K) (v w : V) → Holds d → a.Shows d p key v → Holds (a.put d p key w)
  pub counts : (d : D) → Holds d → b.count (lift d) ≡ a.count d

module _ {F D E K V : Type 0} (a : Holding D K V) (b : Holding E K V) (lift : D → E) (Holds : D → Type 0) (lifts : Lifts a b lift Holds)
    (g : Mut F (K × (MutBor V × Unit {0})) (Bool × (MutBor V × Unit {0}))) where
  abbrev lifted : Stage F D → Stage F E
  lifted s = stage s.position (lift s.held) s.closure

  calls-lift : (s t : Stage F D) (x : Visit K V) → Holds s.held → Calls a g s x t → Calls b g (lifted s) x (lifted t) × Holds t.held
  calls-lift s t x holds calls = grind arith

  kept-lift : (xs : List (Visit K V)) (s t : Stage F D) → Holds s.held → FoldsTo (Stays a g) s xs t → FoldsTo (Stays b g) (lifted s) xs (lifted t) × Holds t.held
  kept-lift [] s t holds run = (ap lifted run, subst (λ u. Holds u.held) run holds)
  kept-lift (x ∷ xs) s t holds run =
      let one = calls-lift s run.0 x holds run.1.calls in let rest = kept-lift xs run.0 t one.1 run.2 in ((lifted run.0, record { calls = one.0; stays = run.1.stays; on = run.1.on }, rest.0), rest.1)

  pub passes-lift : (s t : Stage F D) → Holds s.held → Passes a g s t → Passes b g (lifted s) (lifted t) × Holds t.held
  passes-lift s t holds passes =
      let kept = kept-lift passes.visits s passes.last holds passes.kept in
      elim passes.ends [
        | inl done ↦ (
          record {
            visits = passes.visits;
            last = lifted passes.last;
            kept = kept.0;
            ends = inl (record { past = rw (lifts.counts passes.last.held kept.1) done.past; same = ap lifted done.same });
          },
          subst (λ u. Holds u.held) (sym done.same) kept.1,
        )
        | inr one ↦
            let call = calls-lift passes.last t one.visit kept.1 one.calls in
            (record { visits = passes.visits; last = lifted passes.last; kept = kept.0; ends = inr (record { visit = one.visit; calls = call.0; leaves = one.leaves; here = one.here }) }, call.1)
      ]

  pub may-lift : (s : Stage F D) → Holds s.held → MayPass b g (lifted s) → MayPass a g s
  may-lift s holds may = record {
    at = λ visits t key shown run shows.
        let kept = kept-lift visits s t holds run in
        may.at visits (lifted t) key shown kept.0 (lifts.shows t.held t.position key shown.now kept.1 shows);
  }

-- as many other elements in a vector as there were
pub items-whole : {X : Type 0} (xs : Vec X) (ys : List X) → length ys ≡ length xs.items → (with_items xs ys).items ≡ ys
items-whole xs ys same = take_at ys (drop (length ys) xs.items) xs.len (omega (arith, same, xs.ok.0))

module _ {K V : Type 0} (data_of : K → Key) where
  -- what a loop over two slices reads at a position
  pub shows-read : (keys : List K) (values : List V) (p : ℕ) (key : K) (v : V) → p < length keys → length values ≡ length keys → key ≡ get_or keys p key
      → (beside {V = V} data_of (list_map data_of keys)).Shows values p key (get_or values p v)
  shows-read keys values p key v within same key_is =
      (slice_get-map data_of keys p ∙ ap (option_map data_of) (slice_get_read keys (length keys) p key refl within key_is), slice_get-get_or values p v (omega (arith, within, same)))

  -- a call of the closure for what was read
  pub calls-read : {F : Type 0} (g : Mut F (K × (MutBor V × Unit {0})) (Bool × (MutBor V × Unit {0}))) (keys : List K) (v : V) {values : List V} {p q : ℕ}
      {key : K} {f f' : F} {shown left : MutBor V} {stays : Bool} → p < length keys → length values ≡ length keys → key ≡ get_or keys p key
      → shown.now ≡ get_or values p v → Called g f (key, (shown, tt)) (stays, (left, tt)) f'
      → Calls (beside data_of (list_map data_of keys)) g (stage p values f) (record { key = key; before = shown.now; after = left.now; stays = stays }) (stage q (set values p left.now) f')
  calls-read g keys v {values} {p} {q} {key} within same key_is is called =
      let shows = shows-read keys values p key v within same key_is in record { shows = (shows.0, shows.1 ∙ ap Some (sym is)); written = refl; called = CallsAt-called g called }

  -- the values beside the keys of a map are those of the map
  pub Lifts-values : (slots : Content ℕ) (keys : List Key) (spare : ℕ)
      → Lifts (beside {V = V} data_of keys) (packed_order data_of) (λ values. dense_of slots keys values spare) (λ values. IsSound slots keys values)
  Lifts-values slots keys spare = record {
    shows = λ values p key v sound shows. (
      Comes-at slots keys values sound p (data_of key) shows.0 spare,
      get-packed slots.live keys sound.packed values (data_of key) ∙ ap (at_position values) (sound.packed.names p (data_of key) shows.0) ∙ shows.1,
    );
    puts = λ values p key v w sound shows. dense-written slots keys values sound spare (data_of key) p w (sound.packed.names p (data_of key) shows.0);
    still = λ values p key v w sound shows. IsSound-other slots slots keys values (set values p w) sound sound.well refl (length-set values p w);
    counts = λ values sound. refl;
  }

module _ {F K V : Type 0} (g : Mut F (K × (MutBor V × Unit {0})) (Bool × (MutBor V × Unit {0}))) (data_of : K → Key) where
  module _ (old : Dense V) (first : F) where
    -- what the calls so far did to the map
    pub record Going (s : Stage F (Dense V)) : Type 0 where
      pub well : IsDense s.held
      pub leaves : Leaves old.content s.held.content
      pub capacity : s.held.content.capacity ≡ old.content.capacity
      pub visits : List (Visit K V)
      pub calls : FoldsTo (CallsAt g) first visits s.closure
      pub visited : Visits data_of old.content.live visits (rest_of s.position s.held.keys s.held.values) s.held.content.live
      pub so_far : SoFar data_of old visits s.position s.held

    pub Going-start : IsDense old → Going (stage 0 old first)
    Going-start well = grind (arith, Leaves-refl, rest-start, Visits-start, SoFar-start)

    -- a call writes a value, and the pair isn't to come any more
    module _ (s t : Stage F (Dense V)) (x : Visit K V) (going : Going s) (calls : Calls (packed_order data_of) g s x t) where
      abbrev k : Key
      k = data_of x.key

      abbrev written : Dense V
      written = with_value_of s.held k x.after

      was : IsDense written
      was = IsDense-with_value s.held k x.after going.well calls.shows.0.is_live

      leaves_written : Leaves old.content written.content
      leaves_written = Leaves-trans old.content s.held.content written.content going.leaves (Leaves-with_value s.held.content k x.after calls.shows.0.is_live)

      -- after the call the map is `new`, and the position p
      one_more : (p : ℕ) (new : Dense V) → IsDense new → Leaves old.content new.content → new.content.capacity ≡ s.held.content.capacity
          → rest_of p new.keys new.values ≡ map.remove (rest_of s.position s.held.keys s.held.values) k
          → new.content.live ≡ cond x.stays (map.insert s.held.content.live k x.after) (map.remove s.held.content.live k) → SoFar data_of old (going.visits ++ x ∷ []) p new
          → Going (stage p new t.closure)
      one_more p new well leaves capacity rest live so_far = record {
        well = well;
        leaves = leaves;
        capacity = capacity ∙ going.capacity;
        visits = going.visits ++ x ∷ [];
        calls = FoldsTo-push (CallsAt g) first going.visits s.closure x t.closure going.calls calls.called;
        visited = rw (rest, live) (Visits-call data_of old.content.live going.visits _ s.held.content.live x going.visited (calls.shows.0.found ∙ calls.shows.1));
        so_far = so_far;
      }

      -- the pair stays
      Going-kept : x.stays ≡ true → t.position ≡ s.position + 1 → Going t
      Going-kept stays moved =
          let same : stage (s.position + 1) written t.closure ≡ t = λ j. stage (sym moved j) (sym calls.written j) t.closure in
          subst Going same (one_more (s.position + 1) written was leaves_written refl (calls.shows.0.next x.after) (rw stays refl)
          (SoFar-kept data_of old s.held going.visits s.position going.so_far x calls.shows.0.stands written stays refl refl))

      -- the pair is removed, and the last one moves to its position
      pub Going-dropped : x.stays ≡ false → t.position ≡ s.position → (new : Dense V)
          → LeavesFrom t.held t.position k new → IsDense new → new.content.capacity ≡ t.held.content.capacity
          → Going (stage t.position new t.closure)
      Going-dropped stays here new leaves_from well capacity =
          let gone : LeavesFrom written s.position k new = rw (calls.written, here) at leaves_from in
          let leaves = Leaves-removed false written.content was.content k (same_live s.held.content k x.after calls.shows.0.is_live k ∙ calls.shows.0.is_live)
          new.content gone.removes old.content leaves_written in
          rw here (one_more s.position new well leaves (capacity ∙ ap (λ d. d.content.capacity) calls.written) (gone.rest ∙ calls.shows.0.written x.after)
          (rw stays (gone.removes.live ∙ remove-insert s.held.content.live k x.after))
          (SoFar-dropped data_of old s.held going.visits s.position going.so_far x calls.shows.0.stands new stays gone.keys gone.removes.stack))

    -- calls that keep their pairs
    Going-along : (xs : List (Visit K V)) (s t : Stage F (Dense V)) → Going s → FoldsTo (Stays (packed_order data_of) g) s xs t → Going t
    Going-along [] s t going run = subst Going run going
    Going-along (x ∷ xs) s t going run = Going-along xs run.0 t (Going-kept s run.0 x going run.1.calls run.1.stays run.1.on) run.2

    -- the closure may be called for what is to come
    pub Going-may : CallableOnEach g data_of first old.content.live → (s : Stage F (Dense V)) → Going s → MayPass (packed_order data_of) g s
    Going-may callable s going = record {
      at = λ xs t key shown run shows.
          let at = Going-along xs s t going run in
          let rest = rest_of t.position t.held.keys t.held.values in
          let found : map.get rest (data_of key) ≡ Some shown.now = shows.0.found ∙ shows.1 in
          callable.at t.closure key shown (record { visits = at.visits; calls = at.calls; rest = rest; listed = at.visited.listed; to_come = ap is_some found })
          (Visits-rest data_of old.content.live at.visits rest t.held.content.live at.visited (data_of key) shown.now found);
    }

    -- a pass ended at a pair that was rejected
    pub record Rejected (t : Stage F (Dense V)) : Type 0 where
      pub last : Stage F (Dense V)
      pub going : Going last
      pub rejects : Rejects (packed_order data_of) g last t

    -- what was done once all pairs were visited
    pub record Ended (t : Stage F (Dense V)) : Type 0 where
      pub packed : RetainsPacked g data_of first old t.held
      pub leaves : Leaves old.content t.held.content

    -- its pair is at the position
    pub Rejected-stands : (t : Stage F (Dense V)) (rejected : Rejected t) → slice_get t.held.keys t.position ≡ Some (data_of rejected.rejects.visit.key)
    Rejected-stands t rejected = grind (arith, rejected.rejects.here)

    module _ (s t : Stage F (Dense V)) (going : Going s) (passes : Passes (packed_order data_of) g s t) where
      last_going : Going passes.last
      last_going = Going-along passes.visits s passes.last going passes.kept

      -- the position is that of a pair
      pub Going-rejected : t.position < length t.held.keys → Rejected t
      Going-rejected within = elim passes.ends [
        | inl done ↦ absurd (omega (arith, done.past, ap (λ u. u.position) done.same, ap (λ u. length u.held.keys) done.same))
        | inr one ↦ record { last = passes.last; going = last_going; rejects = one }
      ]

      -- all pairs were visited
      past_end : length t.held.keys ≤ t.position → Going t
      past_end past = elim passes.ends [
        | inl done ↦ subst Going (sym done.same) last_going
        | inr one ↦
            let within = slice_get_within passes.last.held.keys passes.last.position (data_of one.visit.key) one.calls.shows.0.stands in
            absurd (omega (arith, one.here, ap (λ d. length d.keys) one.calls.written))
      ]

      pub Going-end : length t.held.keys ≤ t.position → Ended t
      Going-end past =
          let at = past_end past in
          let visited = rw (rest-end t.position t.held.keys t.held.values past) at at.visited in
          record {
            packed = record {
              retains = record {
                visits = at.visits;
                last = t.closure;
                calls = at.calls;
                listed = Visits-listed data_of old.content.live at.visits t.held.content.live visited;
                stay = Visits-stay data_of old.content.live at.visits t.held.content.live visited;
              };
              packs = rw append-nil at (at.so_far.packs [] t.held.keys (past, refl));
              stack = at.so_far.stack;
            };
            leaves = at.leaves;
          }
