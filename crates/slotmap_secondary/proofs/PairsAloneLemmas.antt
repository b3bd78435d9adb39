-- What a change of the pairs alone keeps.
use Rattle.std.specs.FinMap as map
use Rattle.std.proofs.Common.{◌≡◌, ℕ, None, true, false, is_some, refl, ap, ◌∙◌, arith}
use Rattle.slotmap_core.proofs.Common.{Key, Pairs, contains_key, value_at, get_after_insert, IsSecondary-again, len_again, get_bound, bind_twice, in_own}
use Rattle.slotmap_secondary.specs.Content.{SideContent, IsSideContent, side_with_value}
use Rattle.slotmap_secondary.specs.declared.entry.Entry.TheVariants.{Occupied}
use Rattle.slotmap_secondary.specs.declared.entry.OccupiedEntry.{OccupiedEntry}
use Rattle.slotmap_secondary.specs.Entry.{IsWritten, occupied_with}

module _ {V : Type 0} where
  pub with_value_twice : (c : SideContent V) (k : Key) (v w : V) → side_with_value (side_with_value c k v) k w ≡ side_with_value c k w
  with_value_twice c k v w = ap (λ (m : Pairs V). record c { pairs = m }) (bind_twice c.pairs k v w)

  -- no key of a vacant index is in the map
  pub absent : (m : Pairs V) (i : ℕ) → map.get m i ≡ None → (q : Key) → q.index ≡ i → contains_key m q ≡ false
  absent m i none q at = ap (λ o. is_some (value_at q.version o)) (ap (map.get m) at ∙ none)

  -- two changes of the pairs alone are together a change of the pairs alone
  pub keeps_on : (a b c : SideContent V) (m : Pairs V) → b ≡ record a { pairs = b.pairs } → c ≡ record b { pairs = m } → c ≡ record a { pairs = c.pairs }
  keeps_on a b c m e f = rw f (ap (λ (x : SideContent V). record x { pairs = m }) e)

  -- another value for a key of the map
  pub IsContent-with_value : (c : SideContent V) (k : Key) (v : V) → IsSideContent c → contains_key c.pairs k ≡ true → IsSideContent (side_with_value c k v)
  IsContent-with_value c k v well has = grind (arith, IsSecondary-again c.pairs k v has well.keys, get_after_insert, len_again)

-- an entry once w is the value of its key
pub IsWritten-own : {K V : Type 0} (data_of : K → Key) (e : OccupiedEntry K V) (w : V) → IsWritten data_of (Occupied e) w (Occupied (occupied_with data_of e w))
IsWritten-own data_of e w = record { same_map = refl; same_key = refl; after = refl; value = get_bound e.map.now.pairs (data_of e.key) w; in_place = in_own e.map.now.pairs (data_of e.key) w }
