-- The places of the jobs in the heap, which has the turn of each: how a change of both keeps them, and what each call on the map and the heap leaves.
use Rattle.std.proofs.Common.{◌+◌, ◌-◌, ◌<◌, ◌≡◌, ◌≢◌, ◌≤◌, ◌++◌, ◌∷◌}
use Rattle.slotmap_scheduler.proofs.Common.{keys, same_or_other, exact_keys, keys_total, tied, Content, Entry, IsHeap, IsHeapBut, IsPlaced, Job, Jobs, Key, List, None, Resettled, Some}
use Rattle.slotmap_scheduler.proofs.Common.{SwappedAt, Turn, Vec, ap, arith, get-insert_here, get-insert_other, get_or, heap_entry, length, mapped-written, no_entry, option_map, refl}
use Rattle.slotmap_scheduler.proofs.Common.{slice_get-get_or, slice_get_past, slice_get_read, spot_of, timed, true, unplaced, vec_capacity, vec_len, with_value, ℕ, ◌∙◌, Inserts, IsContent}
use Rattle.slotmap_scheduler.proofs.Common.{IsIndexed, Removes, [], content-mapped, get-mapped, get_or-append_right, get_or-set_other, get_or-set_same, get_or_append_left, inserted_fresh}
use Rattle.slotmap_scheduler.proofs.Common.{inserted_len, length-set, list_set, mapped-insert, mapped-inserts, none_of, removed_len, sym}
use Rattle.slotmap_scheduler.proofs.Heaps.{heap_left, heap_put, same_or_not}
use Rattle.std.specs.FinMap as map

-- one list has at j what the other has at i
pub read_alike : (xs ys : List Entry) (i j : ℕ) → (j < length ys → (i < length xs) × (get_or ys j no_entry ≡ get_or xs i no_entry))
    → (length ys ≤ j → length xs ≤ i) → heap_entry ys j ≡ heap_entry xs i
read_alike xs ys i j inside past = grind (arith, slice_get-get_or ys j no_entry, slice_get_past ys j, slice_get-get_or xs i no_entry, slice_get_past xs i)

pub entry_is : {Z : Type 0} (heap : Vec Entry Z) (i : ℕ) (x : Entry) → i < vec_len heap → x ≡ get_or heap.items i x → heap_entry heap.items i ≡ Some (x.handle, x.turn)
entry_is heap i x within is = ap (option_map (λ (e : Entry). (e.handle, e.turn))) (slice_get_read heap.items (vec_len heap) i x heap.ok.0 within is)

pub entry_within : (xs : List Entry) (i : ℕ) (y : Key × Turn) → heap_entry xs i ≡ Some y → i < length xs
entry_within xs i y there = grind (arith, slice_get_past xs i)

module _ {T : Type 0} (jobs : Jobs T) (heap : List Entry) (is : IsPlaced jobs heap) where
  -- a job gets a place and a turn, where no other job has the place
  pub placed_put : (new : List Entry) (k : Key) (j : Job T) (at : ℕ) → j.place ≡ at → heap_entry new at ≡ Some (k, j.turn)
      → ((i : ℕ) → i ≢ at → heap_entry new i ≡ heap_entry heap i)
      → ((q : Key) (t : Turn) → spot_of jobs q ≡ Some (at, t) → q ≡ k) → ((i : ℕ) (t : Turn) → heap_entry heap i ≡ Some (k, t) → i ≡ at) → IsPlaced (map.insert jobs k j) new
  placed_put new k j at place here others only_place only_key = grind (arith, here, option_map, get-insert_here jobs k j, get-insert_other)

-- a job that gets another place keeps all else
pub place_written : {T : Type 0} (jobs : Content (Job T)) (k : Key) (j : Job T) (p : ℕ) → map.get jobs.live k ≡ Some j → timed (with_value jobs k (record j { place = p })) ≡ timed jobs
place_written jobs k j p found = mapped-written unplaced jobs (with_value jobs k (record j { place = p })) k (record j { place = p }) j found refl refl

module _ {T Z : Type 0} (jobs : Content (Job T)) (heap : Vec Entry Z) (is : IsPlaced jobs.live heap.items) where
  -- the handle of an entry is live
  pub read_live : (i : ℕ) (x : Entry) → i < vec_len heap → x ≡ get_or heap.items i x → map.contains_key jobs.live x.handle ≡ true
  read_live i x within read = grind (arith, is.from i x.handle x.turn, entry_is heap i x within read)

  -- a job leaves, and the last entry takes the place of its own
  module _ (k : Key) (j : Job T) (found : map.get jobs.live k ≡ Some j) where
    pub in_heap : j.place < vec_len heap
    in_heap = omega (arith, entry_within heap.items j.place (k, j.turn) (is.to k j.place j.turn (ap (option_map _) found)), heap.ok.0)

    gone : map.get (map.remove jobs.live k) k ≡ None
    gone = grind (arith, keys)

    left : (q : Key) → q ≢ k → map.get (map.remove jobs.live k) q ≡ map.get jobs.live q
    left q other = grind (arith, keys)

    module _ (new : Vec Entry Z) (len : vec_len new + 1 ≡ vec_len heap) (by : ((d : Entry) → j.place + 1 < vec_len heap → get_or new.items j.place d ≡ get_or heap.items (vec_len heap - 1) d)
        × ((i : ℕ) (d : Entry) → i ≢ j.place → i + 1 < vec_len heap → get_or new.items i d ≡ get_or heap.items i d)) where
      kept : (i : ℕ) → i ≢ j.place → i + 1 ≢ vec_len heap → heap_entry new.items i ≡ heap_entry heap.items i
      kept i other not_last = grind (arith, read_alike)

      past_end : (i : ℕ) → vec_len new ≤ i → heap_entry new.items i ≡ None
      past_end i past = ap (option_map _) (slice_get_past new.items i (omega (arith, new.ok.0)))

      -- it was the last itself
      module _ (end : j.place ≡ vec_len new) where
        pub last_placed : IsPlaced (map.remove jobs.live k) new.items
        last_placed =
            let own = is.to k j.place j.turn in
            record {
              to = λ q p y at. grind (arith, same_or_other q k, gone, left q, is.to q p y, own, kept p, past_end p, same_or_not p j.place);
              from = λ p q y at. grind (arith, same_or_other q k, gone, left q, is.from p q y, own, kept p, past_end p, same_or_not p j.place);
            }

        pub last_heap : IsHeap heap.items → IsHeap new.items
        last_heap ordered = grind (arith, heap_left)

      module _ (apart : j.place ≢ vec_len new) where
        pub gap_within : j.place < vec_len new
        gap_within = let inside = in_heap in omega arith

        pub gap_but : IsHeap heap.items → IsHeapBut j.place new.items
        gap_but ordered = grind (arith, heap_put heap.items new.items ordered j.place, heap.ok.0, new.ok.0, by.1)

        here : heap_entry new.items j.place ≡ heap_entry heap.items (vec_len new)
        here = grind (arith, in_heap, read_alike)

        module _ (m : Entry) (read : m ≡ get_or new.items j.place m) where
          was_last : heap_entry heap.items (vec_len new) ≡ Some (m.handle, m.turn)
          was_last = grind (arith, here, entry_is new j.place m gap_within read)

          pub gap_live : map.contains_key (map.remove jobs.live k) m.handle ≡ true
          gap_live = grind (arith, map.get-remove keys_total jobs.live k m.handle, tied keys_total exact_keys m.handle k, is.from (vec_len new) m.handle m.turn was_last)

          pub gap_placed : (jm : Job T) → map.get (map.remove jobs.live k) m.handle ≡ Some jm → IsPlaced (map.insert (map.remove jobs.live k) m.handle (record jm { place = j.place })) new.items
          gap_placed jm found_m =
              let now_m = get-insert_here (map.remove jobs.live k) m.handle (record jm { place = j.place }) in
              let others = get-insert_other (map.remove jobs.live k) m.handle (record jm { place = j.place }) in
              let own = is.to k j.place j.turn in
              let was_m = is.from (vec_len new) m.handle m.turn was_last in
              record {
                to = λ q p y at. grind (arith, same_or_other q k, same_or_other q m.handle, same_or_not p j.place, gone, left q, others q, is.to q p y, here, kept p, past_end p);
                from = λ p q y at. grind (arith, same_or_other q k, same_or_other q m.handle, same_or_not p j.place, gone, left q, others q, is.from p q y, here, kept p, past_end p);
              }

  -- two entries are exchanged, whose jobs have noted it
  module _ (a b : ℕ) (in_a : a < vec_len heap) (in_b : b < vec_len heap) (differ : a ≢ b) (ea eb : Entry) (is_a : ea ≡ get_or heap.items a ea) (is_b : eb ≡ get_or heap.items b eb)
      (ja jb : Job T) (found_a : map.get jobs.live ea.handle ≡ Some ja) (found_b : map.get (map.insert jobs.live ea.handle (record ja { place = b })) eb.handle ≡ Some jb) where
    abbrev mid : Content (Job T)
    mid = with_value jobs ea.handle (record ja { place = b })

    abbrev noted : Content (Job T)
    noted = with_value mid eb.handle (record jb { place = a })

    pub resettled_swap : (new : Vec Entry Z) → vec_len new ≡ vec_len heap → vec_capacity new ≡ vec_capacity heap → SwappedAt heap.items new.items a b → Resettled jobs heap noted new
    resettled_swap new len capacity by =
        let was_a = entry_is heap a ea in_a is_a in
        let was_b = entry_is heap b eb in_b is_b in
        let now_a : heap_entry new.items a ≡ heap_entry heap.items b =
        read_alike heap.items new.items b a (λ _. (omega (arith, heap.ok.0), by.0 no_entry)) (λ past. absurd (omega (arith, new.ok.0))) in
        let now_b : heap_entry new.items b ≡ heap_entry heap.items a =
        read_alike heap.items new.items a b (λ _. (omega (arith, heap.ok.0), by.1 no_entry)) (λ past. absurd (omega (arith, new.ok.0))) in
        let rest = λ (i : ℕ) (na : i ≢ a) (nb : i ≢ b).
        read_alike heap.items new.items i i (λ within. (omega (arith, heap.ok.0, new.ok.0), by.2 i no_entry na nb)) (λ past. omega (arith, heap.ok.0, new.ok.0)) in
        let here_a = get-insert_here jobs.live ea.handle (record ja { place = b }) in
        let here_b = get-insert_here mid.live eb.handle (record jb { place = a }) in
        let but_a = get-insert_other jobs.live ea.handle (record ja { place = b }) in
        let but_b = get-insert_other mid.live eb.handle (record jb { place = a }) in
        record {
          placed = record {
            to = λ q p y at. grind (arith, same_or_other q ea.handle, same_or_other q eb.handle, same_or_not p a, same_or_not p b, but_a, but_b q, is.to q p y, is.from a, is.from b, rest p);
            from = λ p q y at. grind (arith, same_or_other q ea.handle, same_or_other q eb.handle, same_or_not p a, same_or_not p b, but_a, but_b q, is.from p q y, is.from a, is.from b, rest p);
          };
          same = place_written mid eb.handle jb a found_b ∙ place_written jobs ea.handle ja b found_a;
          len = len;
          capacity = capacity;
        }

module _ {T Z : Type 0} where
  -- the heap was set in order
  pub indexed_settled : {jobs jobs' : Content (Job T)} {heap heap' : Vec Entry Z} → Resettled jobs heap jobs' heap' → IsHeap heap'.items
      → vec_len heap ≡ map.len (timed jobs).live → IsIndexed jobs' heap'
  indexed_settled s ordered len = record { placed = s.placed; ordered = ordered; len = s.len ∙ len ∙ sym (ap (λ (c : Content (Turn × T)). map.len c.live) s.same) }

  -- a job was put into the map, and an entry behind the others
  module _ (jobs mid : Content (Job T)) (heap : Vec Entry Z) (is : IsIndexed jobs heap) (valid : IsContent true jobs) (k : Key) (turn : Turn) (job : T)
      (inserts : Inserts jobs k (record { turn = turn; place = vec_len heap; job = job }) mid)
      (pushed : Vec Entry Z) (len : vec_len pushed ≡ vec_len heap + 1) (items : pushed.items ≡ heap.items ++ record { turn = turn; handle = k } ∷ []) where
    below : (i : ℕ) (d : Entry) → i < vec_len heap → get_or pushed.items i d ≡ get_or heap.items i d
    below i d within = ap (λ es. get_or es i d) items ∙ get_or_append_left heap.items (record { turn = turn; handle = k } ∷ []) d i (omega (arith, heap.ok.0))

    last : (d : Entry) → get_or pushed.items (vec_len heap) d ≡ record { turn = turn; handle = k }
    last d = grind (arith, get_or-append_right heap.items (record { turn = turn; handle = k } ∷ []) (length heap.items) (length heap.items) d refl (omega arith))

    free : map.get jobs.live k ≡ None
    free = none_of (map.get jobs.live k) (inserted_fresh true jobs k _ mid valid inserts)

    pub put_placed : IsPlaced mid.live pushed.items
    put_placed = rw inserts.live (placed_put jobs.live heap.items is.placed pushed.items k (record { turn = turn; place = vec_len heap; job = job }) (vec_len heap) refl
        (entry_is pushed (vec_len heap) (record { turn = turn; handle = k }) (omega arith) (sym (last _)))
        (λ i other. read_alike heap.items pushed.items i i (λ within. (omega (arith, heap.ok.0, pushed.ok.0), below i no_entry (omega (arith, pushed.ok.0))))
        (λ past. omega (arith, heap.ok.0, pushed.ok.0)))
        (λ q t there. absurd (let within = entry_within heap.items (vec_len heap) (q, t) (is.placed.to q (vec_len heap) t there) in omega (arith, heap.ok.0)))
        (λ i t there. absurd (let was = is.placed.from i k t there in let none = free in cc)))

    pub put_but : IsHeapBut (vec_len heap) pushed.items
    put_but = grind (arith, heap_put heap.items pushed.items is.ordered (vec_len heap), heap.ok.0, pushed.ok.0, below)

    put_inserts : Inserts (timed jobs) k (turn, job) (timed mid)
    put_inserts = mapped-inserts unplaced jobs mid k _ inserts

    pub put_len : vec_len pushed ≡ map.len (timed mid).live
    put_len = let had = is.len in let more = inserted_len true (timed jobs) k (turn, job) (timed mid) (content-mapped unplaced jobs true valid) put_inserts in omega arith

  module _ (jobs : Content (Job T)) (heap : Vec Entry Z) (is : IsIndexed jobs heap) (k : Key) (j : Job T) (found : map.get jobs.live k ≡ Some j) where
    -- it was taken out, and its entry
    pub left_indexed : (jobs' : Content (Job T)) (heap' : Vec Entry Z) → Removes (timed jobs) k (timed jobs') → IsPlaced jobs'.live heap'.items
        → IsHeap heap'.items → vec_len heap' + 1 ≡ vec_len heap → IsIndexed jobs' heap'
    left_indexed jobs' heap' removes placed ordered len = grind (arith, is.len, removed_len (timed jobs) k (unplaced j) (timed jobs'), get-mapped unplaced jobs.live k, found)

    pub turned_len : (turn : Turn) → vec_len heap ≡ map.len (timed (with_value jobs k (record j { turn = turn }))).live
    turned_len turn = is.len ∙ sym (ap map.len (mapped-insert unplaced jobs.live k (record j { turn = turn })) ∙ grind (arith, keys, get-mapped unplaced jobs.live k, found))

    -- a job and its entry get another turn
    module _ (turn : Turn) (e : Entry) (read : e ≡ get_or heap.items j.place e) where
      within : j.place < vec_len heap
      within = in_heap jobs heap is.placed k j found

      inside : j.place < length heap.items
      inside = omega (arith, within, heap.ok.0)

      spot : spot_of jobs.live k ≡ Some (j.place, j.turn)
      spot = ap (option_map _) found

      mine : e.handle ≡ k
      mine = grind (arith, entry_is heap j.place e within read, is.placed.to k j.place j.turn spot)

      abbrev now : List Entry
      now = list_set heap.items j.place (record e { turn = turn })

      long : length now ≡ length heap.items
      long = length-set heap.items j.place (record e { turn = turn })

      pub turned_placed : IsPlaced (map.insert jobs.live k (record j { turn = turn })) now
      turned_placed =
          let put = placed_put jobs.live heap.items is.placed now k (record j { turn = turn }) j.place refl in
          let read = slice_get-get_or now j.place no_entry in
          grind (arith, put, long, inside, mine, read_alike, get_or-set_other, get_or-set_same, is.placed, spot)

      pub turned_but : IsHeapBut j.place now
      turned_but = grind (arith, heap_put heap.items now is.ordered j.place, long, get_or-set_other)
