-- What a put after the last slot makes of the map.
use Rattle.std.specs.FinMap as map
use Rattle.std.proofs.Common.{◌≡◌, ◌≢◌, ◌+◌, ◌<◌, ◌≤◌, ◌^◌, ◌∷◌, ◌++◌, ℕ, cond, List, [], length, None, ne_eqb, eq-eqb, refl, ap, ◌∙◌, arith}
use Rattle.slotmap_core.proofs.Common.{Key, IsKey, null_key, no_entry, vacant, entry_at, entry, bind, length_push, none_from}
use Rattle.slotmap_secondary.specs.Slots.{Slot, Occupied, pairs_of, content_of, IsSound}
use Rattle.slotmap_secondary.specs.Content.{SideContent, IsSideContent}
use Rattle.slotmap_secondary.proofs.{SlotLemmas.each-push, FromListLemmas.pairs-push_key, FromListLemmas.count_key}

module _ {V : Type 0} (slots : List (Slot V)) (len : ℕ) (sound : IsSound slots len) (k : Key) (x : V) (at : k.index ≡ length slots) where
  -- one more slot, with a key
  pub IsSound-append : IsKey k → length slots + 1 < 2 ^ 32 → IsSound (slots ++ Occupied k.version x ∷ []) (len + 1)
  IsSound-append key fits = grind (arith, length_push, each-push slots, count_key)

  pub content-append : (capacity : ℕ) → content_of (slots ++ Occupied k.version x ∷ []) capacity ≡ record { pairs = bind (pairs_of slots) k x; places = length slots + 1; capacity = capacity }
  content-append capacity = rw (pairs-push_key slots k.version x, length_push slots (Occupied k.version x), ← at) refl

module _ {V : Type 0} (c : SideContent V) (well : IsSideContent c) (k : Key) where
  -- after the last slot there is nothing
  nothing_past : c.places ≤ k.index → map.get c.pairs k.index ≡ None
  nothing_past past = none_from (map.get c.pairs k.index) (λ p is. omega (arith, well.within k.index p is))

  -- so each key but the null key has a vacant entry there
  pub vacant-past : c.places ≤ k.index → k.index ≢ null_key.index → entry c.pairs k ≡ vacant
  vacant-past past other = ap (λ b. cond b no_entry (entry_at k.version (map.get c.pairs k.index))) (ne_eqb _ _ other) ∙ ap (entry_at k.version) (nothing_past past)

  pub none-null : k.index ≡ null_key.index → entry c.pairs k ≡ no_entry
  none-null null = ap (λ b. cond b no_entry (entry_at k.version (map.get c.pairs k.index))) (eq-eqb _ _ null)
