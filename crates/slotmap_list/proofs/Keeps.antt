-- What each change of the map and of the links leaves of a list.
use Rattle.slotmap_list.proofs.Common.{without_values, get-insert_here, get-insert_other, live-insert_still, same_or_other, alone-written, times_joined}
use Rattle.slotmap_list.proofs.Common.{with_value_at, AreLiveIndices, put_by_place, removed_here, removed_other, ◌∙◌, with_value, clone_live}
use Rattle.slotmap_list.proofs.Common.{owners_stay, same_or_not, one_itself, times_first, times_gone, elements_at, put_number, length, is_some, key_cmp}
use Rattle.slotmap_list.proofs.Common.{Content, IsContent, IsCloneBy, AreClones, same_live, with_list, list_now, one_other, Sequence, AreApart}
use Rattle.slotmap_list.proofs.Common.{is_place, zero, true, List, Some, None, refl, subst, arith, IsLive, Inserts, Removes, IsNew, Lists, list_of}
use Rattle.slotmap_list.proofs.Common.{times, IsFree, without, IsKept, Place, ℕ, suc, [], inl, inr, sym, ap, bound, Key, same, used, used_alone}
use Rattle.std.proofs.Common.{◌≡◌, ◌≢◌, ◌+◌, ◌<◌, ◌≤◌, ◌∷◌, ◌++◌}
use Rattle.std.proofs.Math.{ListN.get_or-eq_default, Nat.eq-zero-or-pos}
use Rattle.slotmap_list.proofs.Parts.{content_apart, put_between, number_without, element_without, IsPlace}
use Rattle.slotmap_list.proofs.Parts.{place_in, part_left, placed}
use Rattle.slotmap_list.proofs.Copies.{clones_by}
use Rattle.slotmap_list.proofs.Elements.{splits}
use Rattle.slotmap_list.proofs.Seen.{once, own, stands}
use Rattle.std.specs.FinMap as map
use Rattle.slotmap_links.specs.Lists as numbers

-- how often a number is in a list with one more
one_more : (i : ℕ) (before : List ℕ) (k : ℕ) (after : List ℕ) → times i (before ++ k ∷ after) ≡ same k i + times i (before ++ after)
one_more i before k after = omega (arith, times_joined i before (k ∷ after), times_first i k after, times_joined i before after)

-- a number that isn't in the one list is free
pub free_one : (s : Lists) (k : ℕ) → length s.lists ≡ 1 → k < s.members → times k (list_of s 0) ≡ 0 → IsFree s k
free_one s k owner below none = record { within = below; nowhere = nowhere }
  where
    nowhere : (p : ℕ) → times k (list_of s p) ≡ 0
    nowhere zero = none
    nowhere (suc p) = ap (times k) (get_or-eq_default s.lists [] {n = suc p} (omega arith))

module _ {T : Type 0} {c : Content T} {s : Lists} (kept : IsKept c s) where
  abbrev is : List ℕ
  is = list_of s 0

  there : 0 < length s.lists
  there = omega (arith, kept.owner)

  -- this is the list now, with the indices of these keys
  now_kept : (new : Content T) (js : List ℕ) → AreLiveIndices new.live js → ((k : Key) → IsLive new k → times k.index js ≡ 1)
      → ((i : ℕ) → 0 < times i js → i < s.members) → bound new ≡ bound c → IsKept new (with_list s 0 js)
  now_kept new js indices once within same = record {
    owner = owners_stay s 0 js ∙ kept.owner;
    indices = subst (AreLiveIndices new.live) (sym (list_now s 0 js there)) indices;
    once = λ k live. ap (times k.index) (list_now s 0 js there) ∙ once k live;
    within = λ i more. within i (omega (arith, ap (times i) (list_now s 0 js there)));
    covered = omega (arith, kept.covered);
  }

  -- the same keys are live, and there may be more room
  pub kept_alike : (new : Content T) → ((q : Key) → map.contains_key new.live q ≡ map.contains_key c.live q) → (s' : Lists) → s'.lists ≡ s.lists → s.members ≤ s'.members
      → bound new < s'.members → IsKept new s'
  kept_alike new same s' lists more covered =
      let list : list_of s' 0 ≡ is = ap (λ (l : List (List ℕ)). list_of (record s { lists = l }) 0) lists in
      record {
        owner = ap length lists ∙ kept.owner;
        indices = record {
          apart = λ a b of_a of_b. kept.indices.apart a b (sym (same a) ∙ of_a) (sym (same b) ∙ of_b);
          live = λ i more. (let own = kept.indices.live i (omega (arith, ap (times i) list)) in (own.0, same own.0 ∙ own.1, own.2));
        };
        once = λ k live. ap (times k.index) list ∙ kept.once k (sym (same k) ∙ live);
        within = λ i inside. omega (arith, kept.within i (omega (arith, ap (times i) list)));
        covered = covered;
      }

  -- a value is written
  module _ (k : Key) (live : IsLive c k) (w : T) where
    abbrev written : Content T
    written = with_value c k w

    same_keys : (q : Key) → map.contains_key written.live q ≡ map.contains_key c.live q
    same_keys = same_live c written (alone-written c k w live)

    same_bound : bound written ≡ bound c
    same_bound = omega (arith, used_alone written, used_alone c, ap used (alone-written c k w live))

    pub kept_written : IsKept written s
    kept_written = kept_alike written same_keys s refl (omega arith) (omega (arith, kept.covered, same_bound))

    elements_written : elements_at written.live is ≡ with_value_at k w (elements_at c.live is)
    elements_written =
        let v = own kept k live in
        let at = stands kept k v.0 v.1 in
        ap (elements_at written.live) at.list
        ∙ placed c.live written.live k w kept_written.indices.apart (get-insert_here c.live k w) (λ q u other is. get-insert_other c.live k w q (λ e. other (ap (λ (q : Key). q.index) e)) ∙ is)
        at.before at.after at.before_indices at.after_indices at.not_before at.not_after
        ∙ sym (ap (with_value_at k w) at.elements ∙ (splits k v.0 (elements_at c.live at.after) (elements_at c.live at.before) at.no_element).write_is w)

    -- what the model of the list is then
    pub seen_written : ◌≡◌ {A = Sequence T} (record { elements = elements_at written.live is; cursors = without_values written; links = s.capacity })
        (record { elements = with_value_at k w (elements_at c.live is); cursors = without_values c; links = s.capacity })
    seen_written = let same_cursors = alone-written c k w live in λ i. record { elements = elements_written i; cursors = same_cursors i; links = s.capacity }

  -- a key is taken out, and it is in no place for now
  module _ (k : Key) (v : T) (found : map.get c.live k ≡ Some v) where
    abbrev rest : List ℕ
    rest = numbers.without k.index is

    taken : (i : ℕ) → times i is ≡ same k.index i + times i rest
    taken i = let at = stands kept k v found in ap (times i) at.list ∙ one_more i at.before k.index at.after
        ∙ ap (λ l. same k.index i + times i l) (sym (number_without c.live at))

    rest_indices : AreLiveIndices c.live rest
    rest_indices = record { apart = kept.indices.apart; live = λ i more. kept.indices.live i (omega (arith, taken i)) }

    pub rest_elements : elements_at c.live rest ≡ without k (elements_at c.live is)
    rest_elements = sym (element_without c.live (stands kept k v found))

    -- it left the map
    module _ (new : Content T) (removes : Removes c k new) where
      others : (q : Key) → q ≢ k → map.get new.live q ≡ map.get c.live q
      others q other = ap (λ m. map.get m q) removes.live ∙ removed_other c.live k q other

      left : (q : Key) → map.contains_key new.live q ≡ true → q ≢ k
      left q of_q at = let none = ap is_some (ap (map.get new.live) at ∙ ap (λ m. map.get m k) removes.live ∙ removed_here c.live k) in cc

      was : (q : Key) → map.contains_key new.live q ≡ true → map.contains_key c.live q ≡ true
      was q of_q = ap is_some (sym (others q (left q of_q))) ∙ of_q

      apart_left : AreApart new.live
      apart_left a b of_a of_b = kept.indices.apart a b (was a of_a) (was b of_b)

      pub kept_taken : bound new ≡ bound c → IsKept new (with_list s 0 rest)
      kept_taken = now_kept new rest (record {
        apart = apart_left;
        live = λ i more. (let own = kept.indices.live i (omega (arith, taken i)) in (
          own.0,
          ap is_some (others own.0 (λ e. omega (arith, times_gone k.index is, ap (λ j. times j rest) (sym own.2 ∙ ap (λ (q : Key). q.index) e)))) ∙ own.1,
          own.2,
        ));
      }) (λ q of_q. omega (
        arith,
        taken q.index,
        kept.once q (was q of_q),
        one_other k.index q.index (λ at. left q of_q (sym (kept.indices.apart k q (ap is_some found) (was q of_q) at))),
      )) (λ i more. kept.within i (omega (arith, taken i)))

      pub elements_taken : elements_at new.live (list_of (with_list s 0 rest) 0) ≡ without k (elements_at c.live is)
      elements_taken = ap (elements_at new.live) (list_now s 0 rest there)
          ∙ part_left c.live new.live k apart_left (λ q u other is. others q (λ e. other (ap (λ (q : Key). q.index) e)) ∙ is) rest rest_indices (times_gone k.index is) ∙ rest_elements

    -- it is put into another place
    module _ (place : Place) (can : is_place place (elements_at c.live rest) ≡ true) where
      abbrev again : List ℕ
      again = put_number place k.index rest

      spot : IsPlace c.live rest place
      spot = place_in c.live rest rest_indices (λ i. omega (arith, once kept i, taken i)) place can

      now : list_of (with_list (with_list s 0 rest) 0 again) 0 ≡ again
      now = list_now (with_list s 0 rest) 0 again (omega (arith, owners_stay s 0 rest, kept.owner))

      as_often : (i : ℕ) → times i again ≡ times i is
      as_often i = omega (arith, ap (times i) (spot.number k.index) ∙ one_more i spot.before k.index spot.after, ap (times i) spot.list, taken i)

      pub kept_moved : IsKept c (with_list (with_list s 0 rest) 0 again)
      kept_moved = record {
        owner = owners_stay (with_list s 0 rest) 0 again ∙ owners_stay s 0 rest ∙ kept.owner;
        indices = record { apart = kept.indices.apart; live = λ i more. kept.indices.live i (omega (arith, ap (times i) now, as_often i)) };
        once = λ q live. ap (times q.index) now ∙ as_often q.index ∙ kept.once q live;
        within = λ i more. kept.within i (omega (arith, ap (times i) now, as_often i));
        covered = kept.covered;
      }

      pub elements_moved : elements_at c.live (list_of (with_list (with_list s 0 rest) 0 again) 0) ≡ put_by_place place (k, v) (without k (elements_at c.live is))
      elements_moved = ap (elements_at c.live) (now ∙ spot.number k.index)
          ∙ put_between c.live c.live k v kept.indices.apart found (λ q u other is. is) rest rest_indices (times_gone k.index is) spot.before spot.after spot.list ∙ sym (spot.element (k, v))
          ∙ ap (put_by_place place (k, v)) rest_elements

  -- a new key is put into a place
  module _ (new : Content T) (k : Key) (v : T) (inserts : Inserts c k v new) (fresh : map.get c.live k ≡ None) (well : IsContent true new) (place : Place)
      (can : is_place place (elements_at c.live is) ≡ true) where
    abbrev more_is : List ℕ
    more_is = put_number place k.index is

    here : map.get new.live k ≡ Some v
    here = ap (λ m. map.get m k) inserts.live ∙ get-insert_here c.live k v

    still : (q : Key) → q ≢ k → map.get new.live q ≡ map.get c.live q
    still q other = ap (λ m. map.get m q) inserts.live ∙ get-insert_other c.live k v q other

    stays : (q : Key) → IsLive c q → IsLive new q
    stays q live = ap (λ m. map.contains_key m q) inserts.live ∙ live-insert_still c.live k v q live

    -- no index of the list is that of the new key
    pub none_yet : times k.index is ≡ 0
    none_yet = elim (eq-zero-or-pos (times k.index is)) [
      | inl none ↦ none
      | inr more ↦ absurd (let own = kept.indices.live k.index more in let same_key = content_apart new well own.0 k (stays own.0 own.1) (ap is_some here) own.2 in
          let found = ap (map.contains_key c.live) (sym same_key) ∙ own.1 in let none = ap is_some fresh in cc)
    ]

    spot_new : IsPlace c.live is place
    spot_new = place_in c.live is kept.indices (once kept) place can

    many_new : (i : ℕ) → times i more_is ≡ same k.index i + times i is
    many_new i = let at = spot_new in ap (times i) (at.number k.index) ∙ one_more i at.before k.index at.after ∙ ap (λ l. same k.index i + times i l) (sym at.list)

    pub kept_put : k.index < s.members → bound new ≡ bound c → IsKept new (with_list s 0 more_is)
    kept_put below = now_kept new more_is (record {
      apart = content_apart new well;
      live = λ i more. (elim (same_or_not k.index i) [
        | inl at ↦ (k, ap is_some here, at)
        | inr other ↦ (let own = kept.indices.live i (omega (arith, many_new i, one_other k.index i other)) in (own.0, stays own.0 own.1, own.2))
      ]);
    }) (λ q live. elim (same_or_other q k) [
      | inl at ↦ rw at (omega (arith, many_new k.index, none_yet, one_itself k.index))
      | inr other ↦ omega (
        arith,
        many_new q.index,
        one_other k.index q.index (λ at. other (content_apart new well q k live (ap is_some here) (sym at))),
        kept.once q (sym (ap is_some (still q other)) ∙ live),
      )
    ]) (λ i more. elim (same_or_not k.index i) [
      | inl at ↦ omega arith
      | inr other ↦ kept.within i (omega (arith, many_new i, one_other k.index i other))
    ])

    pub elements_put : elements_at new.live (list_of (with_list s 0 more_is) 0) ≡ put_by_place place (k, v) (elements_at c.live is)
    elements_put =
        ap (elements_at new.live) (list_now s 0 more_is there ∙ spot_new.number k.index)
        ∙ put_between c.live new.live k v (content_apart new well) here (λ q u other is. still q (λ e. other (ap (λ (q : Key). q.index) e)) ∙ is) is
        kept.indices none_yet spot_new.before spot_new.after spot_new.list
        ∙ sym (spot_new.element (k, v))

-- a copy of a list has the same keys
module _ {T : Type 0} (is_clone : T → T → Type 0) {c copy : Content T} {s : Lists} (kept : IsKept c s) (clones : IsCloneBy is_clone c copy) where
  pub kept_cloned : bound copy ≡ bound c → (s' : Lists) → s'.lists ≡ s.lists → s'.members ≡ s.members → IsKept copy s'
  kept_cloned same s' lists members = kept_alike kept copy (clone_live is_clone c copy clones) s' lists (omega arith) (omega (arith, kept.covered))

  pub elements_cloned : AreClones is_clone (elements_at c.live (list_of s 0)) (elements_at copy.live (list_of s 0))
  elements_cloned = clones_by is_clone clones (λ a b of_a of_b. kept.indices.apart a b (sym (clone_live is_clone c copy clones a) ∙ of_a) (sym (clone_live is_clone c copy clones b) ∙ of_b))
      (list_of s 0) kept.indices

-- a new list has no indices
pub kept_new : {T : Type 0} (c : Content T) (s : Lists) → s.lists ≡ [] ∷ [] → IsNew c → bound c < s.members → IsKept c s
kept_new {T} c s lists new covered =
    let none : (k : Key) → map.contains_key c.live k ≡ true → ⊥ = λ k live. (let h = ap (λ m. map.contains_key m k) new.live in let e = ap is_some (map.get-empty {X = T} key_cmp k) in cc) in
    let list : list_of s 0 ≡ [] = ap (λ (l : List (List ℕ)). list_of (record s { lists = l }) 0) lists in
    let nowhere : (i : ℕ) → times i (list_of s 0) ≡ 0 = λ i. ap (times i) list in
    record {
      owner = ap length lists;
      indices = record { apart = λ a b of_a of_b at. absurd (none a of_a); live = λ i inside. absurd (omega (arith, nowhere i)) };
      once = λ k live. absurd (none k live);
      within = λ i inside. absurd (omega (arith, nowhere i));
      covered = covered;
    }
