-- What the two vectors say of the lists that the user sees.
use Rattle.std.proofs.Common.{◌≡◌, ℕ, ◌<◌, false, Option, Some, None, nat_eq, List, [], ◌∷◌, ◌++◌, length, get_or, refl, sym, subst, ◌∙◌, arith, append_assoc, append-nil}
use Rattle.std.proofs.Common.{ap}
use Rattle.std.proofs.lemmas.List.{get_or_default, with_items_is}
use Rattle.std.specs.Vec.{vec_capacity, with_items}
use Rattle.std.specs.declared.vec.Vec.{Vec}
use Rattle.slotmap_links.specs.Lists.{Lists, times, first_or, last_or, list_of, with_list, IsFree, IsIn, number_after, number_before, numbers_from, put_before, put_behind}
use Rattle.slotmap_links.specs.Kept.{listed, lists_by, bounds, neighbours, unless_nobody, no_ends, no_link, AreKept, Relists, IsGap}
use Rattle.slotmap_links.specs.Linked.{Bounds, Neighbours, ends_of, link_between}
use Rattle.slotmap_links.specs.declared.{Ends.Ends, Link.Link}
use Rattle.slotmap_links.proofs.Counts.{is_itself, is_other, one_itself, times_first}
use Rattle.slotmap_links.proofs.KeptLists.{seen_list, seen_owners, seen_relisted}
use Rattle.slotmap_links.proofs.Linking.{in_midst, last_or-append, split_at}
use Rattle.slotmap_links.proofs.Written.{somebody}

-- what the words of a list say of a number that isn't before this place of it
pub record Split (at : ℕ) (after before : List ℕ) : Type 0 where
  pub after_is : number_after at (before ++ at ∷ after) ≡ first_or after None
  pub before_is : (o : Option ℕ) → number_before o at (before ++ at ∷ after) ≡ last_or before o
  pub from_is : numbers_from at (before ++ at ∷ after) ≡ at ∷ after
  pub put_before_is : (k : ℕ) → put_before at k (before ++ at ∷ after) ≡ before ++ k ∷ at ∷ after
  pub put_behind_is : (k : ℕ) → put_behind at k (before ++ at ∷ after) ≡ before ++ at ∷ k ∷ after

pub splits : (at : ℕ) (after before : List ℕ) → times at before ≡ 0 → Split at after before
splits at after [] none = let here = is_itself at in record { after_is = cc; before_is = λ o. cc; from_is = cc; put_before_is = λ k. cc; put_behind_is = λ k. cc }
splits at after (q ∷ before) none =
    let first = times_first at q before in
    let apart : nat_eq q at ≡ false = is_other q at (λ e. omega (arith, ap (λ x. times at (x ∷ before)) e ∙ times_first at at before, one_itself at)) in
    let rest = splits at after before (omega arith) in
    record {
      after_is = cc;
      before_is = λ o. (let r = rest.before_is (Some q) in cc);
      from_is = cc;
      put_before_is = λ k. (let r = rest.put_before_is k in cc);
      put_behind_is = λ k. (let r = rest.put_behind_is k in cc);
    }

-- a member between those before it and those after it in its list
pub record Stands (s : Lists) (p k : ℕ) : Type 0 where
  pub before : List ℕ
  pub after : List ℕ
  pub is : list_of s p ≡ before ++ k ∷ after
  pub not_before : times k before ≡ 0

module _ {ends : List Ends} {links : List Link} (kept : AreKept ends links) {capacity : ℕ × ℕ} {s : Lists} (seen : lists_by ends links capacity ≡ s) where
  -- the list by the links is the one that the user sees
  pub list_here : (p : ℕ) → listed ends links p ≡ list_of s p
  list_here p = sym (seen_list ends links capacity p) ∙ ap (λ s. list_of s p) seen

  pub owner_here : (p : ℕ) → p < length s.lists → p < length ends
  owner_here p there = omega (arith, ap (λ (s : Lists). length s.lists) seen, seen_owners ends links)

  -- a number that the user finds in no list is in none
  pub free_here : (k : ℕ) → IsFree s k → (p : ℕ) → times k (listed ends links p) ≡ 0
  free_here k free p = ap (times k) (list_here p) ∙ free.nowhere p

  pub ends_here : (p : ℕ) (x : Ends) → x ≡ get_or ends p x → p < length s.lists → bounds x ≡ ends_of (list_of s p)
  ends_here p x is there = ap bounds (is ∙ get_or_default ends p x no_ends (owner_here p there)) ∙ kept.linked.ends_are p ∙ ap ends_of (list_here p)

  -- a place that the user sees is one by the links
  abbrev pub place_at : (p : ℕ) → {prev next : Option ℕ} → IsGap (list_of s p) prev next → IsGap (listed ends links p) prev next
  place_at p place = record { before = place.before; after = place.after; is = list_here p ∙ place.is; prev_is = place.prev_is; next_is = place.next_is }

  -- the places at the two ends of a list
  module _ (p : ℕ) (x : Ends) (is : x ≡ get_or ends p x) (there : p < length s.lists) where
    abbrev pub front_place : IsGap (list_of s p) None (unless_nobody x.first)
    front_place = record { before = []; after = list_of s p; is = refl; prev_is = refl; next_is = ap (λ (b : Bounds). b.first) (ends_here p x is there) }

    abbrev pub back_place : IsGap (list_of s p) (unless_nobody x.last) None
    back_place = record { before = list_of s p; after = []; is = sym (append-nil (list_of s p)); prev_is = ap (λ (b : Bounds). b.last) (ends_here p x is there); next_is = refl }

  module _ (p k : ℕ) (inside : IsIn s p k) where
    pub stands : Stands s p k
    stands =
        let split = split_at k (list_of s p) inside in
        let once = kept.apart.once p k in
        let sum = ap (times k) (list_here p ∙ split.2) ∙ in_midst split.0 k split.1 in
        record { before = split.0; after = split.1; is = split.2; not_before = omega arith }

    pub member_below : k < length links
    member_below = kept.within p k (omega (arith, ap (times k) (list_here p)))

    pub somebody_is : unless_nobody k ≡ Some k
    somebody_is = somebody k (omega (arith, member_below, kept.few))

    splits_here : Split k stands.after stands.before
    splits_here = splits k stands.after stands.before stands.not_before

    pub from_here : numbers_from k (list_of s p) ≡ k ∷ stands.after
    from_here = ap (numbers_from k) stands.is ∙ splits_here.from_is

    -- the two beside it, and the places on its two sides
    module _ (x : Link) (is : x ≡ get_or links k x) where
      pub link_is : neighbours x ≡ link_between stands.before stands.after
      link_is = ap neighbours (is ∙ get_or_default links k x no_link member_below) ∙ kept.linked.links_are p stands.before k stands.after (list_here p ∙ stands.is)

      pub number_next : unless_nobody x.next ≡ number_after k (list_of s p)
      number_next = ap (λ (n : Neighbours). n.next) link_is ∙ sym (ap (number_after k) stands.is ∙ splits_here.after_is)

      pub number_prev : unless_nobody x.prev ≡ number_before None k (list_of s p)
      number_prev = ap (λ (n : Neighbours). n.prev) link_is ∙ sym (ap (number_before None k) stands.is ∙ splits_here.before_is None)

      abbrev pub before_place : IsGap (list_of s p) (unless_nobody x.prev) (unless_nobody k)
      before_place = record { before = stands.before; after = k ∷ stands.after; is = stands.is; prev_is = ap (λ (n : Neighbours). n.prev) link_is; next_is = somebody_is }

      abbrev pub behind_place : IsGap (list_of s p) (unless_nobody k) (unless_nobody x.next)
      behind_place = record {
        before = stands.before ++ k ∷ [];
        after = stands.after;
        is = stands.is ∙ sym (append_assoc stands.before (k ∷ []) stands.after);
        prev_is = somebody_is ∙ sym (last_or-append stands.before (k ∷ []) None);
        next_is = ap (λ (n : Neighbours). n.next) link_is;
      }

    pub before_put : (m : ℕ) → stands.before ++ m ∷ k ∷ stands.after ≡ put_before k m (list_of s p)
    before_put m = sym (ap (put_before k m) stands.is ∙ splits_here.put_before_is m)

    pub behind_put : (m : ℕ) → (stands.before ++ k ∷ []) ++ m ∷ stands.after ≡ put_behind k m (list_of s p)
    behind_put m = append_assoc stands.before (k ∷ []) (m ∷ stands.after) ∙ sym (ap (put_behind k m) stands.is ∙ splits_here.put_behind_is m)

-- the two vectors hold what was written
module _ {Z Z' : Type 0} (V : Vec Ends Z) (W : Vec Link Z') (p : ℕ) (ks : List ℕ) (ends : List Ends) (links : List Link) (relists : Relists V.items W.items p ks ends links) where
  ends_hold : (with_items V ends).items ≡ ends
  ends_hold = with_items_is V ends (relists.owners ∙ sym V.ok.0)

  links_hold : (with_items W links).items ≡ links
  links_hold = with_items_is W links (relists.members ∙ sym W.ok.0)

  pub kept_written : AreKept (with_items V ends).items (with_items W links).items
  kept_written = subst (λ (x : List Ends × List Link). AreKept x.0 x.1) (λ i. (sym ends_hold i, sym links_hold i)) relists.kept

  abbrev room : ℕ × ℕ
  room = (vec_capacity V, vec_capacity W)

  pub seen_written : (s : Lists) → lists_by V.items W.items room ≡ s → p < length s.lists → lists_by (with_items V ends).items (with_items W links).items room ≡ with_list s p ks
  seen_written s seen there = (λ i. lists_by (ends_hold i) (links_hold i) room)
      ∙ seen_relisted V.items W.items p ks ends links (omega (arith, ap (λ (s : Lists). length s.lists) seen, seen_owners V.items W.items room)) relists room
      ∙ ap (λ s. with_list s p ks) seen
