-- What the calls know of the slots and the vectors by what the map holds.
use Rattle.std.specs.FinMap as map
use Rattle.std.proofs.Common.{◌≡◌, ◌+◌, ◌<◌, ◌≤◌, ◌∷◌, ◌++◌, swap_remove, ◌∙◌, arith, ℕ, [], min, true, List, Some, None, length, slice_get, get_or, option_map}
use Rattle.slotmap_core.specs.Words.{Vec}
use Rattle.slotmap_core.proofs.Common.{MakesRoom as SlotsMakeRoom, Detaches, map as list_map, vec_capacity, length_push, slice_get_within, slice_get_read, slice_get-map, slice_get_push, remove_absent}
use Rattle.slotmap_core.proofs.Common.{with_items, Key, Content, IsContent, used, Keeps, Inserts, Removes, Reattaches, vec_len, refl, sym, ap, subst, length-map, map-append, keys_total, exact_keys}
use Rattle.slotmap_dense.specs.declared.DenseSlotMap.TheInside.{Inside}
use Rattle.slotmap_dense.specs.Dense.{IsDense, ClosesGap, with_values_in, Dense}
use Rattle.slotmap_dense.specs.Call.{StaysDense, GrowsDense, MakesDenseRoom}
use Rattle.slotmap_dense.specs.Packed.{at_position, IsPacked, IsSound, dense_of, live_of}
use Rattle.slotmap_dense.specs.Rest.{rest_of, LeavesFrom}
use Rattle.slotmap_dense.proofs.PackedLemmas.{IsPacked-cut, IsGapped-removed, get-packed, rest-closed, value_there}
use Rattle.slotmap_dense.proofs.WellFormed.{dense_well, same_keys, IsSound-other}
use Rattle.slotmap_dense.proofs.MoveLemmas.{swap_remove_last, IsSound-appended, inserts-dense, reattaches-dense, IsSound-closed, removes-dense, detaches-dense}

module _ {K V : Type 0} (data_of : K → Key) where
  -- what a map with these parts holds
  abbrev pub held : Content ℕ → Vec K → Vec V → Dense V
  held slots keys values = dense_of slots (list_map data_of keys.items) values.items (min (vec_capacity keys) (vec_capacity values))

  pub dense_valid : (slots : Content ℕ) (keys : Vec K) (values : Vec V) → IsSound slots (list_map data_of keys.items) values.items → IsDense (held slots keys values)
  dense_valid slots keys values sound = dense_well slots (list_map data_of keys.items) values.items sound (min (vec_capacity keys) (vec_capacity values))
      (omega (arith, length-map keys.items data_of, keys.ok.0, keys.ok.1, values.ok.0, values.ok.1, sound.same_length))

module _ {K V : Type 0} (data_of : K → Key) (m : Inside K V) {now : Dense V} (view : held data_of m.slots m.keys m.values ≡ now)
    (sound : IsSound m.slots (list_map data_of m.keys.items) m.values.items) where
  pub well_formed : IsDense now
  well_formed = subst IsDense view (dense_valid data_of m.slots m.keys m.values sound)

  pub contains : (k : Key) → map.contains_key now.content.live k ≡ map.contains_key m.slots.live k
  contains k = rw (← view) ((same_keys _ _ _ sound).each k)

  pub found : (k : Key) → map.get now.content.live k ≡ at_position m.values.items (map.get m.slots.live k)
  found k = rw (← view) (get-packed _ _ sound.packed m.values.items k)

  -- a key that isn't live
  pub absent : (k : Key) → map.get m.slots.live k ≡ None → (map.get now.content.live k ≡ None) × (map.remove now.content.live k ≡ now.content.live)
  absent k none = let gone = found k ∙ ap (at_position m.values.items) none in (gone, remove_absent keys_total exact_keys now.content.live k gone)

  pub used_is : used now.content ≡ used m.slots
  used_is = rw (← view) (omega (arith, (same_keys _ _ _ sound).all))

  -- a key that was read has its position
  pub read_at : (i : ℕ) (key : K) → i < length now.keys → key ≡ get_or m.keys.items i key → map.get m.slots.live (data_of key) ≡ Some i
  read_at i key within read =
      let inside : i < length m.keys.items = omega (arith, ap (λ d. length d.keys) view, length-map m.keys.items data_of) in
      sound.packed.names i (data_of key) (slice_get-map data_of m.keys.items i ∙ ap (option_map data_of) (slice_get_read m.keys.items (length m.keys.items) i key refl inside read))

  -- the last key
  pub last_key : (xs : List K) (key : K) → m.keys.items ≡ xs ++ key ∷ []
      → (list_map data_of m.keys.items ≡ list_map data_of xs ++ data_of key ∷ []) × (map.get m.slots.live (data_of key) ≡ Some (length xs))
  last_key xs key is =
      let keys = ap (list_map data_of) is ∙ map-append data_of xs (key ∷ []) in
      (keys, sound.packed.names (length xs) (data_of key) (grind (arith, length-map xs data_of, slice_get_push (list_map data_of xs) (data_of key))))

  -- the value at the position of a live key
  pub record Present (k : Key) (i : ℕ) : Type 0 where
    pub value : V
    pub there : slice_get m.values.items i ≡ Some value
    pub gives : map.get now.content.live k ≡ Some value
    pub inside : i < length m.values.items

  pub present : (k : Key) (i : ℕ) → map.get m.slots.live k ≡ Some i → Present k i
  present k i named = grind (arith, value_there, found, slice_get_within)

  -- other values in the same vector
  pub lent : (ws : List V) → held data_of m.slots m.keys (with_items m.values ws) ≡ with_values_in now ws
  lent ws = grind arith

  -- a call that changes nothing
  pub unchanged : StaysDense now (held data_of m.slots m.keys m.values)
  unchanged = rw view (record { before = well_formed; after = well_formed; capacity = refl })

  module _ (slots' : Content ℕ) (keys' : Vec K) (values' : Vec V) where
    abbrev pub new : Dense V
    new = held data_of slots' keys' values'

    -- the capacities stay
    pub stays-valid : IsSound slots' (list_map data_of keys'.items) values'.items → slots'.capacity ≡ m.slots.capacity
        → vec_capacity keys' ≡ vec_capacity m.keys → vec_capacity values' ≡ vec_capacity m.values → StaysDense now new
    stays-valid sound' slots_same keys_same values_same =
        record { before = well_formed; after = dense_valid data_of slots' keys' values' sound'; capacity = rw (← view, slots_same, keys_same, values_same) refl }

    -- if both vectors have room for one more, they keep their capacities
    abbrev StayInRoom : Type 0
    StayInRoom = vec_len m.keys + 1 ≤ vec_capacity m.keys → vec_len m.values + 1 ≤ vec_capacity m.values
        → (vec_capacity keys' ≡ vec_capacity m.keys) × (vec_capacity values' ≡ vec_capacity m.values)

    -- then the map's capacity stays as well
    in_place : slots'.capacity ≡ m.slots.capacity → StayInRoom → 0 < now.content.room → new.content.capacity ≡ now.content.capacity
    in_place slots_same stay enough =
        let room : 0 < (held data_of m.slots m.keys m.values).content.room = subst (λ (d : Dense V). 0 < d.content.room) (sym view) enough in
        let had : (vec_len m.keys + 1 ≤ vec_capacity m.keys) × (vec_len m.values + 1 ≤ vec_capacity m.values) =
        omega (arith, m.keys.ok.0, m.values.ok.0, m.keys.ok.1, m.values.ok.1, length-map m.keys.items data_of, sound.same_length) in
        let same = stay had.0 had.1 in rw (← view, slots_same, same.0, same.1) refl

    -- a call that succeeded, with one pair more
    pub may-grow : (refused : Type 0) → (refused → ⊥) → IsSound slots' (list_map data_of keys'.items) values'.items → slots'.capacity ≡ m.slots.capacity
        → vec_capacity m.keys ≤ vec_capacity keys' → vec_capacity m.values ≤ vec_capacity values' → StayInRoom → GrowsDense now refused new
    may-grow refused never sound' slots_same keys_more values_more stay = grind (arith, well_formed, dense_valid, unchanged, (in_place slots_same stay))

    keeps : Keeps m.slots slots' → keys'.items ≡ m.keys.items → values'.items ≡ m.values.items → now.content.room ≤ new.content.room → Keeps now.content new.content
    keeps same keys_same values_same more = grind arith

    -- a call that failed: the vectors may have more room, and nothing else changed
    pub refused-grow : (refused : Type 0) → slots' ≡ m.slots → keys'.items ≡ m.keys.items → values'.items ≡ m.values.items
        → vec_capacity m.keys ≤ vec_capacity keys' → vec_capacity m.values ≤ vec_capacity values' → StayInRoom → GrowsDense now refused new
    refused-grow refused slots_same keys_same values_same keys_more values_more stay = grind (arith, well_formed, dense_valid, unchanged, keeps, (in_place (ap (λ c. c.capacity) slots_same) stay))

    -- the pair of k was taken out of position i, and the last pair moved there; so the slots, with k removed or detached, changed for that one
    pub record Closed (k : Key) (i : ℕ) (v : V) (left : Content ℕ) : Type 0 where
      pub sound_after : IsSound slots' (list_map data_of keys'.items) values'.items
      pub value : map.get now.content.live k ≡ Some v
      pub order : ClosesGap now k v new
      pub removes : Removes m.slots k left → Removes now.content k new.content
      pub detaches : Detaches m.slots k left → Detaches now.content k new.content
      pub leaves : Removes m.slots k left → LeavesFrom now i k new
      pub valid : left.capacity ≡ m.slots.capacity → StaysDense now new

    pub closed : (k : Key) (i : ℕ) (v : V) (left : Content ℕ) → map.get m.slots.live k ≡ Some i → slice_get m.values.items i ≡ Some v
        → list_map data_of keys'.items ≡ swap_remove (list_map data_of m.keys.items) i k → values'.items ≡ swap_remove m.values.items i v
        → IsPacked slots'.live (list_map data_of keys'.items) → IsContent true slots' → slots' ≡ record left { live = slots'.live }
        → vec_capacity keys' ≡ vec_capacity m.keys → vec_capacity values' ≡ vec_capacity m.values → Closed k i v left
    closed k i v left at there keys values packed well rest keys_same values_same =
        let stood = sound.packed.stands k i at in
        let closes : IsPacked slots'.live (swap_remove (list_map data_of m.keys.items) i k) = rw (← keys) packed in
        let spare = min (vec_capacity m.keys) (vec_capacity m.values) in
        let after : IsSound slots' (list_map data_of keys'.items) values'.items = subst (IsSound slots' (list_map data_of keys'.items)) (sym values)
        (rw keys (IsSound-closed m.slots _ _ sound left slots' k v i at closes well)) in
        let is : dense_of slots' (swap_remove (list_map data_of m.keys.items) i k) (swap_remove m.values.items i v) spare ≡ new =
        λ j. dense_of slots' (sym keys j) (sym values j) (min (sym keys_same j) (sym values_same j)) in
        let fits : length (list_map data_of m.keys.items) ≤ spare = omega (arith, length-map m.keys.items data_of, m.keys.ok.0, m.keys.ok.1, m.values.ok.0, m.values.ok.1, sound.same_length) in
        let removes : Removes m.slots k left → Removes now.content k new.content =
        λ rem. subst (λ d. Removes now.content k d.content) is (rw (← view) (removes-dense m.slots _ _ sound left slots' k v i at closes spare fits rem rest)) in
        record {
          sound_after = after;
          value = found k ∙ ap (at_position m.values.items) at ∙ there;
          order = rw (← view) (record { position = i; stood = stood; value = there; keys = keys; values = values });
          removes = removes;
          detaches = λ det. subst (λ d. Detaches now.content k d.content) is (rw (← view) (detaches-dense m.slots _ _ sound left slots' k v i at closes spare det rest));
          leaves = λ rem. record {
            removes = removes rem;
            keys = rw (← view) keys;
            rest = rw (← view) (ap (λ d. rest_of i d.keys d.values) (sym is) ∙ rest-closed m.slots.live slots'.live _ _ sound.packed sound.same_length k v i at closes i (omega arith));
          };
          valid = λ same. stays-valid after (ap (λ c. c.capacity) rest ∙ same) keys_same values_same;
        }

    -- the last pair was taken out, and its key removed from the slots
    pub popped : (key : K) (v : V) → m.keys.items ≡ keys'.items ++ key ∷ [] → m.values.items ≡ values'.items ++ v ∷ []
        → slots'.live ≡ map.remove m.slots.live (data_of key) → IsContent true slots'
        → vec_capacity keys' ≡ vec_capacity m.keys → vec_capacity values' ≡ vec_capacity m.values → Closed (data_of key) (length keys'.items) v slots'
    popped key v keys values live well keys_same values_same =
        let k = data_of key in
        let i = length keys'.items in
        let last = last_key keys'.items key keys in
        let ks_long = length-map keys'.items data_of in
        let more = length_push (list_map data_of keys'.items) k in
        let long : length values'.items ≡ i = omega (arith, ks_long, more, ap length last.0, ap length values, length_push values'.items v, sound.same_length) in
        let keys_are : list_map data_of keys'.items ≡ swap_remove (list_map data_of m.keys.items) i k = rw last.0 (sym (swap_remove_last _ k i ks_long)) in
        closed k i v slots' last.1 (rw values (grind (arith, slice_get_push values'.items v))) keys_are (rw values (sym (swap_remove_last values'.items v i long)))
        (rw (live, keys_are) (IsPacked-cut _ _ i (IsGapped-removed _ _ sound.packed k i last.1) k (omega (arith, ks_long, more, ap length last.0))))
        well refl keys_same values_same

    -- k and v were appended, and the slots have k at that position
    pub record Appended (k : Key) (v : V) (n : ℕ) : Type 0 where
      pub sound_after : slots'.live ≡ map.insert m.slots.live k n → IsContent true slots' → IsSound slots' (list_map data_of keys'.items) values'.items
      pub inserts : Inserts m.slots k n slots' → Inserts now.content k v new.content
      pub reattaches : Reattaches m.slots k n slots' → Reattaches now.content k v new.content

    pub appended : (key : K) (v : V) (n : ℕ) → n ≡ length m.keys.items → map.get m.slots.live (data_of key) ≡ None → keys'.items ≡ m.keys.items ++ key ∷ []
        → values'.items ≡ m.values.items ++ v ∷ [] → vec_capacity m.keys ≤ vec_capacity keys' → vec_capacity m.values ≤ vec_capacity values' → Appended (data_of key) v n
    appended key v n count none keys_are values keys_more values_more =
        let k = data_of key in
        let keys : list_map data_of keys'.items ≡ list_map data_of m.keys.items ++ k ∷ [] = ap (list_map data_of) keys_are ∙ map-append data_of m.keys.items (key ∷ []) in
        let long : length (list_map data_of m.keys.items) ≡ n = omega (arith, length-map m.keys.items data_of) in
        let after = min (vec_capacity keys') (vec_capacity values') in
        let is : dense_of slots' (list_map data_of m.keys.items ++ k ∷ []) (m.values.items ++ v ∷ []) after ≡ new = λ j. dense_of slots' (sym keys j) (sym values j) after in
        record {
          sound_after = λ live well. subst (IsSound slots' (list_map data_of keys'.items)) (sym values) (rw keys (IsSound-appended m.slots _ _ sound slots' k v none (rw long live) well));
          inserts = λ ins. subst (λ d. Inserts now.content k v d.content) is (rw (← view) (inserts-dense m.slots _ _ sound slots' k v none _ after (omega arith) (rw long ins)));
          reattaches = λ rea. subst (λ d. Reattaches now.content k v d.content) is (rw (← view) (reattaches-dense m.slots _ _ sound slots' k v none _ after (omega arith) (rw long rea)));
        }

    -- room for n more pairs was asked for, in the slots and then in both vectors
    module _ (n : ℕ) (slots_ok : Type 0) (slots_room : SlotsMakeRoom true m.slots n slots_ok slots') (keys_same : keys'.items ≡ m.keys.items)
        (values_same : values'.items ≡ m.values.items) (keys_more : vec_capacity m.keys ≤ vec_capacity keys') (values_more : vec_capacity m.values ≤ vec_capacity values') where
      -- there was room for n more already
      abbrev HadRoom : Type 0
      HadRoom = (n ≤ m.slots.room) × (vec_len m.keys + n ≤ vec_capacity m.keys) × (vec_len m.values + n ≤ vec_capacity m.values)

      pub makes-room : (ok : Type 0) → (ok → slots_ok × (vec_len m.keys + n ≤ vec_capacity keys') × (vec_len m.values + n ≤ vec_capacity values'))
          → (HadRoom → ok) → (HadRoom → (vec_capacity keys' ≡ vec_capacity m.keys) × (vec_capacity values' ≡ vec_capacity m.values)) → MakesDenseRoom now n ok new
      makes-room ok made succeeds same =
          let all = (same_keys _ _ _ sound).all in
          let live : new.content.live ≡ (held data_of m.slots m.keys m.values).content.live = λ j. live_of (list_map data_of (keys_same j)) (values_same j) in
          let counts : (vec_len m.keys ≡ length m.keys.items) × (vec_len m.values ≡ length m.values.items) × (length m.keys.items ≡ length m.values.items)
          × (length (list_map data_of m.keys.items) ≡ length m.keys.items) × (length (list_map data_of keys'.items) ≡ length m.keys.items) =
          omega (arith, m.keys.ok.0, m.values.ok.0, length-map m.keys.items data_of, length-map keys'.items data_of, ap length keys_same, sound.same_length) in
          let had : n ≤ (held data_of m.slots m.keys m.values).content.room → HadRoom = λ enough. omega (arith, m.keys.ok.1, m.values.ok.1) in
          rw (← view) (record {
            before = dense_valid data_of m.slots m.keys m.values sound;
            after = dense_valid data_of slots' keys' values' (rw (keys_same, values_same) (IsSound-other m.slots slots' _ _ _ sound slots_room.after slots_room.keeps.live refl));
            fits = λ is. grind (arith, slots_room.fits, made is);
            room = λ is. grind (arith, slots_room.room, made is);
            live_and_more = λ is. grind (arith, slots_room.live_and_more, made is, sound.packed.counted);
            succeeds = λ enough. succeeds (had enough);
            had_room = λ enough. let h = had enough in λ j. dense_of (slots_room.had_room h.0 j) (list_map data_of (keys_same j)) (values_same j) (min ((same h).0 j) ((same h).1 j));
            keeps = search arith;
            same_order = record { keys = ap (list_map data_of) keys_same; values = values_same };
            capacity = omega (arith, slots_room.capacity);
          })
