-- The content of a primary map: what it holds now.
use Rattle.std.specs.Prelude.{◌≡◌, ℕ, ◌+◌, ◌-◌, ◌^◌, ◌<◌, ◌≤◌, refl, Option, Some, Bool, true, List, ◌∷◌, length, ◌⊎◌}
use Rattle.std.specs.Ordering.{nat_cmp}
use Rattle.std.specs.FinMap as map
use Rattle.std.specs.FinSet as set
use Rattle.std.specs.Coded.{Coded, code_by, coded×, coded_ℕ, coded_option, coded_list}
use Rattle.slotmap_core.specs.Key.{Key, IsKey, is_last, key_cmp, coded_key}

-- what a primary map holds
pub record Content (V : Type 0) : Type 0 where
  -- the live keys, each with its value
  pub live : map.FinMap key_cmp V
  -- the keys whose value was taken out, and whose place is kept
  pub detached : set.FinSet key_cmp
  -- the last key of each retired place
  pub retired : set.FinSet key_cmp
  -- the version that the next key at each vacant index will have
  pub next : map.FinMap nat_cmp ℕ
  -- the key that the next insert returns
  pub offer : Key
  -- the vacant indices, last freed first, if the map reuses them in that order
  pub stack : Option (List ℕ)
  -- this many inserts and reattaches can't run out of memory
  pub room : ℕ
  -- there is memory for this many keys; each map says what it counts
  pub capacity : ℕ

-- by which a proof tells two contents apart
abbrev pub content_code : {V : Type 0} → Coded V → Coded (Content V)
content_code {V} code =
    code_by
    (map.FinMap key_cmp V × (set.FinSet key_cmp × (set.FinSet key_cmp × (map.FinMap nat_cmp ℕ × (Key × (Option (List ℕ) × (ℕ × ℕ)))))))
    (coded× (map.code coded_key code) (coded× (set.code coded_key)
    (coded× (set.code coded_key) (coded× (map.code coded_ℕ coded_ℕ)
    (coded× coded_key (coded× (coded_option (coded_list coded_ℕ)) (coded× coded_ℕ coded_ℕ)))))))
    (λ c. (c.live, (c.detached, (c.retired, (c.next, (c.offer, (c.stack, (c.room, c.capacity))))))))
    (λ p. record { live = p.0; detached = p.1.0; retired = p.1.1.0; next = p.1.1.1.0; offer = p.1.1.1.1.0; stack = p.1.1.1.1.1.0; room = p.1.1.1.1.1.1.0; capacity = p.1.1.1.1.1.1.1 })
    (λ _. refl)

-- the largest number of places of a map
abbrev pub most : ℕ
most = 2 ^ 32 - 2

module _ {V : Type 0} where
  -- the number of places that no insert can use: those of live, detached and retired keys
  abbrev pub used : Content V → ℕ
  used c = map.len c.live + set.len c.detached + set.len c.retired

  -- the number of places: those that no insert can use, and the vacant ones
  abbrev pub places : Content V → ℕ
  places c = used c + map.len c.next

  -- k has a value
  abbrev pub IsLive : Content V → Key → Type 0
  IsLive c k = map.contains_key c.live k ≡ true

  -- k's value was taken out, and its place is kept
  abbrev pub IsDetached : Content V → Key → Type 0
  IsDetached c k = set.contains c.detached k ≡ true

  -- k is the last key of its place, and was removed
  abbrev pub IsRetired : Content V → Key → Type 0
  IsRetired c k = set.contains c.retired k ≡ true

  -- no key has a place at index i, and a later insert may use it
  abbrev pub IsVacant : Content V → ℕ → Type 0
  IsVacant c i = map.contains_key c.next i ≡ true

  -- a place is vacant
  abbrev pub HasVacant : Content V → Type 0
  HasVacant c = 0 < map.len c.next

  -- live or detached
  abbrev pub Stands : Content V → Key → Type 0
  Stands c k = IsLive c k ⊎ IsDetached c k

  -- live, detached or retired: k has a place that no insert can use
  abbrev pub Uses : Content V → Key → Type 0
  Uses c k = Stands c k ⊎ IsRetired c k

  -- the stack has each vacant index once, and its top is the index of the offer
  pub record IsStack (c : Content V) (stack : List ℕ) : Type 0 where
    pub lists : (i : ℕ) → set.contains (set.from_list {R = nat_cmp} stack) i ≡ map.contains_key c.next i
    pub once : length stack ≡ map.len c.next
    pub top : used c < most → (i : ℕ) (rest : List ℕ) → stack ≡ i ∷ rest → c.offer.index ≡ i

  -- what holds of every content; a map that reuses its places has room for as many inserts as places are vacant
  pub record IsContent (reuses : Bool) (c : Content V) : Type 0 where
    pub keys : (k : Key) → Uses c k → IsKey k
    pub vacancies : (i v : ℕ) → map.get c.next i ≡ Some v → IsKey (record { index = i; version = v })
    -- a vacant place had a key before, so its next one isn't the first, of version 1
    pub had_keys : (i v : ℕ) → map.get c.next i ≡ Some v → 1 < v
    pub last : (k : Key) → IsRetired c k → is_last k ≡ true
    -- each index from 1 to `places` belongs to exactly one of the four kinds
    pub within : (k : Key) → Uses c k → (1 ≤ k.index) × (k.index ≤ places c)
    pub vacant : (i : ℕ) → IsVacant c i → (1 ≤ i) × (i ≤ places c)
    pub apart : (a b : Key) → Uses c a → Uses c b → a.index ≡ b.index → a ≡ b
    pub not_live_and_detached : (k : Key) → IsLive c k → IsDetached c k → ⊥
    pub not_standing_and_retired : (k : Key) → Stands c k → IsRetired c k → ⊥
    pub not_used_and_vacant : (k : Key) → Uses c k → IsVacant c k.index → ⊥
    pub limit : places c ≤ most
    pub offers : used c < most → (map.get c.next c.offer.index ≡ Some c.offer.version) ⊎ ((map.len c.next ≡ 0) × (c.offer.index ≡ places c + 1) × (c.offer.version ≡ 1))
    pub stacked : (stack : List ℕ) → c.stack ≡ Some stack → IsStack c stack
    pub room_fits : c.room + used c ≤ most
    pub reused : reuses ≡ true → map.len c.next ≤ c.room
    -- there is memory for the live keys and those that there is room for
    pub capacity_fits : map.len c.live + c.room ≤ c.capacity
