-- An element that is taken out of its list and put into a place of another one, or of the same.
use Rattle.slotmap_lists.proofs.Common.{length, set, is_some, ◌∙◌, ℕ, List, Some, refl, sym, ap, arith, true, get_or-set_same, Key, Content}
use Rattle.slotmap_lists.proofs.Common.{some_is, Lists, list_of, with_list, IsFree, IsIn, Place, is_spot, element_put, index_put, spot_in, owners_stay}
use Rattle.slotmap_lists.proofs.Common.{home_of, lists_at, AreListed, elements_of, value_under, number_with, without, without_key, put_into, Sequences}
use Rattle.std.proofs.Common.{◌≡◌, ◌≢◌, ◌<◌}
use Rattle.slotmap_lists.proofs.Callers.{into_other, into_long}
use Rattle.slotmap_lists.proofs.Changes.{listed_moved, lists_moved, rest_has, taken_free}
use Rattle.slotmap_lists.proofs.Listed.{as_many_lists, home_below, inside_home, live_if, homed_below, number_is, value_at}
use Rattle.std.specs.FinMap as map
use Rattle.slotmap_links.specs.Lists as numbers

-- what the model of the lists is, by its parts
pub seen_as : {T : Type 0} (s : Sequences T) (a lists : List (List (Key × T))) (b : Content (Unit {0})) (n : ℕ × (ℕ × ℕ)) → a ≡ lists → b ≡ s.cursors → n ≡ s.links
    → ◌≡◌ {A = Sequences T} (record { lists = a; cursors = b; links = n }) (record s { lists = lists })
seen_as s a all b n lists cursors links = λ i. record { lists = lists i; cursors = cursors i; links = links i }

module _ {T : Type 0} {c : Content T} {homes : List ℕ} {s : Lists} (kept : AreListed c homes s) (k : Key) (some : is_some (value_under k (lists_at c.live s)) ≡ true) where
  alive : map.contains_key c.live k ≡ true
  alive = live_if kept k some

  own : (v : T) × (map.get c.live k ≡ Some v)
  own = some_is (map.get c.live k) alive

  abbrev home : ℕ
  home = home_of homes k.index

  -- the links without its index
  abbrev without_it : Lists
  without_it = with_list s home (numbers.without k.index (list_of s home))

  module _ (q : ℕ) (place : Place) (there : q < length (lists_at c.live s)) (can : is_spot place (elements_of q (without_key k (lists_at c.live s))) ≡ true) where
    below : q < length s.lists
    below = omega (arith, there, as_many_lists c.live s)

    abbrev again : Lists
    again = with_list without_it q (index_put place k.index (list_of without_it q))

    -- what the two calls ask for, and what they leave
    pub record Moves : Type 0 where
      pub homed : k.index < length homes
      pub owner : home < length s.lists
      pub member : IsIn s home k.index
      pub free : IsFree without_it k.index
      pub list : q < length without_it.lists
      pub has : spot_in place (list_of without_it q)
      pub stays : AreListed c (set homes k.index q) again
      pub lists : lists_at c.live again ≡ put_into (element_put place) q k (value_under k (lists_at c.live s)) (lists_at c.live s)
      pub number : number_with k (lists_at c.live again) ≡ Some q
      pub values : (p : Key) → value_under p (lists_at c.live again) ≡ value_under p (lists_at c.live s)
      pub others : (p : ℕ) → p ≢ q → elements_of p (lists_at c.live again) ≡ without k (elements_of p (lists_at c.live s))
      pub as_many : length (lists_at c.live again) ≡ length (lists_at c.live s)

    pub moves : Moves
    moves =
        let stays = listed_moved kept k own.0 own.1 q place below can in
        let homed = homed_below kept k alive k.index refl in
        let lists = lists_moved kept k own.0 own.1 q place below can in
        record {
          homed = homed;
          owner = home_below kept k alive;
          member = inside_home kept k alive;
          free = taken_free kept k own.0 own.1;
          list = omega (arith, below, owners_stay s home (numbers.without k.index (list_of s home)));
          has = rest_has kept k own.0 own.1 q place below can;
          stays = stays;
          lists = lists;
          number = number_is stays k alive ∙ ap Some (get_or-set_same homes k.index q 0 homed);
          values = λ p. value_at stays p ∙ sym (value_at kept p);
          others = λ p apart. ap (elements_of p) lists ∙ ap (λ o. elements_of p (put_into (element_put place) q k o (lists_at c.live s))) (value_at kept k ∙ own.1)
              ∙ into_other (element_put place) q k own.0 (lists_at c.live s) p apart;
          as_many = ap length lists ∙ into_long (element_put place) q k (value_under k (lists_at c.live s)) (lists_at c.live s);
        }
