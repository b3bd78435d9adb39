-- An element that is taken out of its place and put into another.
use Rattle.slotmap_list.proofs.Common.{is_some, ◌∙◌, Content, list_of, with_list, list_now, owners_stay, times_gone, value_of, elements_at, has_place, is_move, is_place, moved_to, put_number}
use Rattle.slotmap_list.proofs.Common.{true, List, Some, length, sym, ap, subst, arith, Key, Lists, times, IsFree, IsIn, IsKept, Place}
use Rattle.std.proofs.Common.{◌≡◌, ◌<◌}
use Rattle.slotmap_list.proofs.Keeps.{elements_moved, free_one, kept_moved, rest_elements}
use Rattle.slotmap_list.proofs.Parts.{place_there}
use Rattle.slotmap_list.proofs.Moving.{moved_values, mover, place_left, put_there}
use Rattle.slotmap_list.proofs.Seen.{inside_if, no_key_twice, value_at}
use Rattle.std.specs.FinMap as map
use Rattle.slotmap_links.specs.Lists as numbers

module _ {T : Type 0} {c : Content T} {s : Lists} (kept : IsKept c s) (k : Key) (place : Place) (can : is_move k place (elements_at c.live (list_of s 0)) ≡ true) where
  abbrev es : List (Key × T)
  es = elements_at c.live (list_of s 0)

  -- its value
  own : (v : T) × (map.get c.live k ≡ Some v)
  own = let v = mover place k es can in (v.0, sym (value_at kept k) ∙ v.1)

  -- the links without its index
  abbrev without_it : Lists
  without_it = with_list s 0 (numbers.without k.index (list_of s 0))

  there : 0 < length s.lists
  there = omega (arith, kept.owner)

  taken : list_of without_it 0 ≡ numbers.without k.index (list_of s 0)
  taken = list_now s 0 (numbers.without k.index (list_of s 0)) there

  left : is_place place (elements_at c.live (numbers.without k.index (list_of s 0))) ≡ true
  left = ap (is_place place) (rest_elements kept k own.0 own.1) ∙ place_left place k es can

  -- what the two calls ask for, and what they leave
  pub record Moves : Type 0 where
    pub member : IsIn s 0 k.index
    pub free : IsFree without_it k.index
    pub has : has_place place (list_of without_it 0)
    pub stays : IsKept c (with_list without_it 0 (put_number place k.index (list_of without_it 0)))
    pub elements : elements_at c.live (list_of (with_list without_it 0 (put_number place k.index (list_of without_it 0))) 0) ≡ moved_to place k es
    pub values : (q : Key) → value_of q (moved_to place k es) ≡ value_of q es

  pub moves : Moves
  moves = record {
    member = inside_if kept k (ap is_some own.1);
    free = free_one without_it k.index (owners_stay s 0 (numbers.without k.index (list_of s 0)) ∙ kept.owner) (kept.within k.index (inside_if kept k (ap is_some own.1)))
        (ap (times k.index) taken ∙ times_gone k.index (list_of s 0));
    has = subst (has_place place) (sym taken) (place_there c.live place (numbers.without k.index (list_of s 0)) left);
    stays = subst (λ l. IsKept c (with_list without_it 0 (put_number place k.index l))) (sym taken) (kept_moved kept k own.0 own.1 place left);
    elements = ap (λ l. elements_at c.live (list_of (with_list without_it 0 (put_number place k.index l)) 0)) taken
        ∙ elements_moved kept k own.0 own.1 place left ∙ put_there place k own.0 es can (value_at kept k ∙ own.1);
    values = moved_values place k es (no_key_twice kept);
  }
