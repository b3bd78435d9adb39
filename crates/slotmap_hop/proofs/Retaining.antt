-- A loop that calls a closure for each live key, by ascending index, and removes the keys that it rejects.
use Rattle.std.specs.FinMap as map
use Rattle.std.proofs.Common.{◌≡◌, ◌+◌, ◌∷◌, ◌++◌, arith, ℕ, Bool, cond, true, false, List, [], append-nil, Option, Some, None, is_some, refl, sym, ap, ◌∙◌, inl}
use Rattle.slotmap_core.specs.Words.{MutBor}
use Rattle.slotmap_core.proofs.Common.{FoldsTo-push, from_index-start, get-remove_other, in_after_remove, entries_none, remove-insert, Swept-start, Visits-listed, Keyed-from_start, Keyed-may_come}
use Rattle.slotmap_core.proofs.Common.{FoldsTo, key_cmp, IsLive, Removes, Visit, CallsAt, MayCome, from_index, none_live, in_from, keys_total, exact_keys, Visits, Visits-stay, Keyed-next, Keyed-same}
use Rattle.slotmap_core.proofs.Common.{Mut, Key, seen}
use Rattle.slotmap_hop.specs.HopContent.{HopContent, IsHopContent, IsNextLive, IsNextPlace, HasKeyAt, StaysHop, hop_with_value, blocks_without, blocks_without_all}
use Rattle.slotmap_hop.specs.Retain.{RetainsByIndex, dropped}
use Rattle.slotmap_hop.proofs.BlocksLeft.{InOrder, InOrder-kept, InOrder-dropped}
use Rattle.slotmap_hop.proofs.Sweeping.{Sweeping, same_comes, sweep_written, sweep_dropped}

module _ {F K V : Type 0} (g : Mut F (K × (MutBor V × Unit {0})) (Bool × (MutBor V × Unit {0}))) (data_of : K → Key) (old : HopContent V) (f : F) where
  -- the calls so far, and the key for which the closure is called next
  pub record Retaining (now : HopContent V) (next : Option K) (f' : F) : Type 0 where
    pub index : ℕ
    pub sweep : Sweeping data_of old now index next
    pub visits : List (Visit K V)
    pub calls : FoldsTo (CallsAt g) f visits f'
    pub visited : Visits data_of old.content.live visits (from_index index old.content.live) now.content.live
    pub in_order : InOrder data_of old visits index now

  -- the same, where the index of the next key is known
  abbrev pub RetainingAt : HopContent V → Option ℕ → F → Type 0
  RetainingAt now None f' = Retaining now None f'
  RetainingAt now (Some index) f' = HasKeyAt now.content index × ((k : K) → IsLive now.content (data_of k) → (data_of k).index ≡ index → Retaining now (Some k) f')

  retaining_at : (now : HopContent V) (i : ℕ) (next : Option ℕ) (f' : F) → IsNextPlace now.content i next
      → ((found : Option K) → IsNextLive data_of now.content i found → Retaining now found f') → RetainingAt now next f'
  retaining_at now i next f' comes so_far = grind arith

  retaining_starts : (next : Option K) → IsHopContent old → IsNextLive data_of old.content 0 next → Retaining old next f
  retaining_starts next well comes = record {
    index = 0;
    sweep = record { swept = Swept-start old.content 0 well.valid; valid = well; comes = comes };
    visits = [];
    calls = refl;
    visited = Keyed-from_start data_of old.content.live;
    in_order = record { ascending = ap (λ m. map.entries m) (sym (from_index-start old.content.live)); blocks = λ ks. refl };
  }

  pub retaining_starts_at : (next : Option ℕ) → IsHopContent old → IsNextPlace old.content 0 next → RetainingAt old next f
  retaining_starts_at next well comes = retaining_at old 0 next f comes (λ found. retaining_starts found well)

  -- the closure may be called for the next key, whose value no call has seen
  pub retaining_may_come : (now : HopContent V) (k : K) (f' : F) → Retaining now (Some k) f'
      → MayCome g data_of f old.content.live (data_of k) f' × (map.get old.content.live (data_of k) ≡ map.get now.content.live (data_of k))
  retaining_may_come now k f' so_far =
      let comes = so_far.sweep.comes in (
        Keyed-may_come data_of old.content.live g f f' so_far.visits so_far.index now.content.live so_far.calls so_far.visited (data_of k) comes.0 comes.1,
        Keyed-same data_of old.content.live so_far.visits so_far.index now.content.live so_far.visited (data_of k) comes.1,
      )

  -- the closure was called for that key, and the key after it was looked for
  module _ (well : IsHopContent old) {x : Visit K V} {now : HopContent V} {f' f'' : F} (call : CallsAt g f' x f'') (so_far : Retaining now (Some x.key) f')
      (found : map.get now.content.live (data_of x.key) ≡ Some x.before) where
    abbrev pub written : HopContent V
    written = hop_with_value now (data_of x.key) x.after

    called : FoldsTo (CallsAt g) f (so_far.visits ++ x ∷ []) f''
    called = FoldsTo-push (CallsAt g) f so_far.visits f' x f'' so_far.calls call

    after : (next : Option K) → IsNextLive data_of written.content ((data_of x.key).index + 1) next → IsNextLive data_of now.content ((data_of x.key).index + 1) next
    after next comes = (same_comes data_of old now so_far.index x.key so_far.sweep x.after ((data_of x.key).index + 1) next).0 comes

    visited : (live : map.FinMap key_cmp V) → live ≡ cond x.stays (map.insert now.content.live (data_of x.key) x.after) (map.remove now.content.live (data_of x.key))
        → Visits data_of old.content.live (so_far.visits ++ x ∷ []) (from_index ((data_of x.key).index + 1) old.content.live) live
    visited live is =
        rw is (Keyed-next data_of old.content.live (λ k q is_live other same. well.valid.apart q k (inl (inl other)) (inl (inl is_live)) same)
        so_far.visits so_far.index now.content.live x so_far.visited so_far.sweep.comes.1 so_far.sweep.comes.2 found)

    retaining_kept : x.stays ≡ true → (next : Option K) → IsNextLive data_of written.content ((data_of x.key).index + 1) next → Retaining written next f''
    retaining_kept stays next comes = record {
      index = (data_of x.key).index + 1;
      sweep = sweep_written data_of old now so_far.index x.key so_far.sweep x.after next (after next comes);
      visits = so_far.visits ++ x ∷ [];
      calls = called;
      visited = visited _ (rw stays refl);
      in_order = InOrder-kept data_of old now so_far.visits so_far.index so_far.in_order well so_far.visited x so_far.sweep.comes found written stays refl refl;
    }

    pub retaining_kept_at : (next : Option ℕ) → IsNextPlace written.content ((data_of x.key).index + 1) next → x.stays ≡ true → RetainingAt written next f''
    retaining_kept_at next comes stays = retaining_at written ((data_of x.key).index + 1) next f'' comes (retaining_kept stays)

    retaining_dropped : (new : HopContent V) → x.stays ≡ false → Removes written.content (data_of x.key) new.content
        → new.blocks ≡ blocks_without written (data_of x.key) → StaysHop written new
        → (next : Option K) → IsNextLive data_of written.content ((data_of x.key).index + 1) next → Retaining new next f''
    retaining_dropped new stays removes blocks keeps next comes = record {
      index = (data_of x.key).index + 1;
      sweep = sweep_dropped data_of old now so_far.index x.key so_far.sweep x.after new next (after next comes) removes keeps;
      visits = so_far.visits ++ x ∷ [];
      calls = called;
      visited = visited _ (removes.live ∙ remove-insert now.content.live (data_of x.key) x.after ∙ rw stays refl);
      in_order =
          InOrder-dropped data_of old now so_far.visits so_far.index so_far.in_order well so_far.visited x so_far.sweep.comes found
          written new stays refl refl removes blocks;
    }

    pub retaining_dropped_at : (new : HopContent V) (next : Option ℕ) → IsNextPlace written.content ((data_of x.key).index + 1) next → x.stays ≡ false
        → Removes written.content (data_of x.key) new.content
        → new.blocks ≡ blocks_without written (data_of x.key) → StaysHop written new → RetainingAt new next f''
    retaining_dropped_at new None comes stays removes blocks keeps = retaining_dropped new stays removes blocks keeps None comes
    retaining_dropped_at new (Some index) comes stays removes blocks keeps =
        let k = data_of x.key in
        let there = comes.0 in
        let other = get-remove_other written.content.live k there.0 (λ same. absurd (omega (arith, comes.1, there.2, ap (λ q. q.index) same))) in (
          (there.0, ap is_some (ap (λ m. map.get m there.0) removes.live ∙ other) ∙ there.1, there.2),
          λ q is_live at.
              let was = in_after_remove keys_total exact_keys written.content.live k (data_of q) (sym (ap (λ m. map.contains_key m (data_of q)) removes.live) ∙ is_live) in
              retaining_dropped new stays removes blocks keeps (Some q) (was.1, omega (arith, comes.1, at), λ p is from. omega (arith, comes.2 p is from, at)),
        )

  -- no key is left
  pub retaining_ends : (now : HopContent V) (f' : F) → Retaining now None f' → RetainsByIndex g data_of f old now
  retaining_ends now f' so_far =
      let live = old.content.live in
      let visits = so_far.visits in
      let none : from_index so_far.index live ≡ map.empty = none_live _ (λ q there.
      let both = in_from so_far.index live q there in
      let still = ap is_some (sym (Keyed-same data_of live visits so_far.index now.content.live so_far.visited q both.0)) ∙ both.1 in
      absurd (omega (arith, both.0, so_far.sweep.comes q still))) in
      let done = rw none at so_far.visited in
      record {
        retains = record {
          visits = visits;
          last = f';
          calls = so_far.calls;
          listed = Visits-listed data_of live visits now.content.live done;
          stay = Visits-stay data_of live visits now.content.live done;
        };
        ascending = sym (so_far.in_order.ascending ∙ ap (λ es. seen data_of visits ++ es) (ap (λ m. map.entries m) none ∙ entries_none) ∙ append-nil (seen data_of visits));
        blocks = sym (ap (blocks_without_all old) (sym (append-nil (dropped data_of visits))) ∙ so_far.in_order.blocks []);
      }
