-- A content without its values: for a type whose model hides them, and says which keys are live, spent or detached.
use Rattle.std.specs.FinMap as map
use Rattle.slotmap_core.specs.Words.{refl, ℕ, map as list_map, Coded, code_by, coded_ℕ, key_cmp, Content, content_code}

-- the same keys, with no values
unfoldable pub keys_of : {V : Type 0} → map.FinMap key_cmp V → map.FinMap key_cmp (Unit {0})
keys_of m = map.from_sorted (list_map (λ e. (e.0, tt)) (map.entries m))

-- the same content, with no values
abbrev pub without_values : {V : Type 0} → Content V → Content (Unit {0})
without_values c = record {
  live = keys_of c.live;
  detached = c.detached;
  retired = c.retired;
  next = c.next;
  offer = c.offer;
  stack = c.stack;
  room = c.room;
  capacity = c.capacity;
}

-- by which a proof tells two of them apart
abbrev pub keys_code : Coded (Content (Unit {0}))
keys_code = content_code (code_by ℕ coded_ℕ (λ _. 0) (λ _. tt) (λ _. refl))
