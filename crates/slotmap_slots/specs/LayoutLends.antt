-- What a layout ends as, once a `&mut` to one of its payloads was returned.
use Rattle.slotmap_core.specs.Words.{ℕ, Lends, Fml, RattleType, MutBor}

-- once the borrow r ends, the payload at index i is the last value written through r
abbrev pub lends_payload : (L P : RattleType) → (L.Denot → ℕ → P.Denot → L.Denot) → MutBor L.Denot → ℕ → MutBor P.Denot → Fml
lends_payload L P with_payload_at m i r = Lends L P m r (with_payload_at m.now i)
