-- What a write to the value of a live key leaves of the lists.
use Rattle.slotmap_lists.proofs.Common.{used-written, ◌∙◌, ℕ, List, [], Some, inl, inr, refl, sym, ap, arith, Key, Content}
use Rattle.slotmap_lists.proofs.Common.{IsLive, Lists, list_of, with_value, without_values, some_is, AreApart, alone-written, same_live}
use Rattle.slotmap_lists.proofs.Common.{get-insert_here, get-insert_other, same_or_not, elements_at, part_left, placed, splits, key_times}
use Rattle.slotmap_lists.proofs.Common.{as_often, lists_at, home_of, AreListed, with_value_at, with_value_in, Sequences, list_map}
use Rattle.std.proofs.Common.{◌≡◌, ◌≢◌, ◌∷◌}
use Rattle.slotmap_list.proofs.Elements.{apart_first}
use Rattle.slotmap_lists.proofs.Listed.{apart_home, stands}
use Rattle.slotmap_lists.proofs.Opening.{listed_alike}
use Rattle.slotmap_lists.proofs.Which.{map_alike}
use Rattle.std.specs.FinMap as map

twice : {A B C : Type 0} (f : A → B) (g : B → C) (xs : List A) → list_map g (list_map f xs) ≡ list_map (λ x. g (f x)) xs
twice f g [] = refl
twice f g (x ∷ xs) = ap (λ l. g (f x) ∷ l) (twice f g xs)

module _ {T : Type 0} where
  write_absent : (k : Key) (w : T) (es : List (Key × T)) → key_times k es ≡ 0 → with_value_at k w es ≡ es
  write_absent k w [] none = refl
  write_absent k w (e ∷ es) none = let apart = apart_first k e.0 (omega arith) in let rest = write_absent k w es (omega arith) in cc

  module _ {c : Content T} {homes : List ℕ} {s : Lists} (kept : AreListed c homes s) (k : Key) (live : IsLive c k) (w : T) where
    abbrev written : Content T
    written = with_value c k w

    pub listed_written : AreListed written homes s
    listed_written = listed_alike kept written (same_live c written (alone-written c k w live)) homes (λ i. refl) s refl
        (omega arith) kept.homes_long (omega (arith, kept.covered, used-written c k w live))

    own : (v : T) × (map.get c.live k ≡ Some v)
    own = some_is (map.get c.live k) live

    others : (q : Key) (u : T) → q.index ≢ k.index → map.get c.live q ≡ Some u → map.get written.live q ≡ Some u
    others q u other is = get-insert_other c.live k w q (λ e. other (ap (λ (q : Key). q.index) e)) ∙ is

    apart : AreApart written.live
    apart = (listed_written.indices 0).apart

    written_at : (p : ℕ) → elements_at written.live (list_of s p) ≡ with_value_at k w (elements_at c.live (list_of s p))
    written_at p = elim (same_or_not p (home_of homes k.index)) [
      | inl is ↦ rw is (let at = stands kept k own.0 own.1 in
          ap (elements_at written.live) at.list
          ∙ placed c.live written.live k w apart (get-insert_here c.live k w) others at.before at.after at.before_indices at.after_indices at.not_before at.not_after
          ∙ sym (ap (with_value_at k w) at.elements ∙ (splits k own.0 (elements_at c.live at.after) (elements_at c.live at.before) at.no_element).write_is w))
      | inr other ↦ (let none = apart_home kept k live p other in
          part_left c.live written.live k apart others (list_of s p) (kept.indices p) none
          ∙ sym (write_absent k w (elements_at c.live (list_of s p)) (omega (arith, as_often c.live k (list_of s p), none))))
    ]

    lists_written : lists_at written.live s ≡ with_value_in k w (lists_at c.live s)
    lists_written = map_alike (elements_at written.live) (λ is. with_value_at k w (elements_at c.live is)) s.lists [] written_at ∙ sym (twice (elements_at c.live) (with_value_at k w) s.lists)

    -- what the model of the lists is then
    pub seen_written : (n : ℕ × (ℕ × ℕ)) → ◌≡◌ {A = Sequences T} (record { lists = lists_at written.live s; cursors = without_values written; links = n })
        (record { lists = with_value_in k w (lists_at c.live s); cursors = without_values c; links = n })
    seen_written n = let same_cursors = alone-written c k w live in λ i. record { lists = lists_written i; cursors = same_cursors i; links = n }
