-- Several live keys get new values, one after another: what SeveralLemmas needs of a content.
-- For the crates of maps.
use Rattle.std.proofs.Common.{◌≡◌, ◌∷◌, List, refl, sym}
use Rattle.slotmap_core.specs.Words.{Key, Content, with_value, value_of, with_values}
use Rattle.slotmap_core.proofs.General.{KeyLemmas.keys_total, KeyLemmas.exact_keys, Maps.get_inserted, Maps.get_other}
use Rattle.slotmap_core.proofs.Several.SeveralLemmas.{WriteLaws}

module _ {V : Type 0} where
  -- a value is written under its key alone
  pub content_written : WriteLaws {V = V} value_of with_value
  content_written = record { here = λ c k v. get_inserted keys_total exact_keys c.live k v; elsewhere = λ c k q v _ other. get_other keys_total exact_keys c.live k v q (λ same. other (sym same)) }

  -- the capacity stays
  pub capacity-with_values : (c : Content V) (ks : List Key) (vs : List V) → (with_values c ks vs).capacity ≡ c.capacity
  capacity-with_values c (k ∷ ks) (v ∷ vs) = capacity-with_values (with_value c k v) ks vs
  capacity-with_values c ks vs = refl
