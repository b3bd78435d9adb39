-- A heap of turns: what each step leaves that moves an entry up or down, and which entry is first.
use Rattle.std.proofs.Common.{◌<◌, ◌≡◌, ◌≢◌, ◌≤◌, ◌⊎◌}
use Rattle.slotmap_scheduler.proofs.Common.{Bool, Content, Entry, IsAbove, IsFirstBelow, IsHeap, IsHeapBut, IsPlaced, Job, List, Resettled, Swapped, SwappedAt, Turn, Vec, alike_or_apart, arith}
use Rattle.slotmap_scheduler.proofs.Common.{exact_unsigned, false, get_or, get_or_read_under, length, nat_cmp_total, nat_tests, no_entry, precedes, refl, suc, true, turn_at, up, vec_len, zero, ℕ}
use Rattle.slotmap_scheduler.proofs.Common.{◌∙◌}

pub same_or_not : (i j : ℕ) → (i ≡ j) ⊎ (i ≢ j)
same_or_not = alike_or_apart nat_cmp_total exact_unsigned

across : (a b c : Turn) → precedes b a ≡ false → precedes c b ≡ false → precedes c a ≡ false
unfolding precedes
across a b c ab bc = grind (arith, nat_tests)

once : (a b : Turn) → precedes a b ≡ true → precedes b a ≡ false
unfolding precedes
once a b before = grind (arith, nat_tests)

itself : (a : Turn) → precedes a a ≡ false
unfolding precedes
itself a = grind (arith, nat_tests)

module _ {T Z : Type 0} where
  pub resettled_same : (jobs : Content (Job T)) (heap : Vec Entry Z) → IsPlaced jobs.live heap.items → Resettled jobs heap jobs heap
  resettled_same jobs heap placed = record { placed = placed; same = refl; len = refl; capacity = refl }

  pub resettled_then : {a b c : Content (Job T)} {x y z : Vec Entry Z} → Resettled a x b y → Resettled b y c z → Resettled a x c z
  resettled_then one two = record { placed = two.placed; same = two.same ∙ one.same; len = two.len ∙ one.len; capacity = two.capacity ∙ one.capacity }

-- what a test of two entries says of their turns
pub compared : {Z : Type 0} (heap : Vec Entry Z) (i j : ℕ) (x y : Entry) → i < vec_len heap → j < vec_len heap → x ≡ get_or heap.items i x
    → y ≡ get_or heap.items j y → (b : Bool) → precedes x.turn y.turn ≡ b
    → precedes (turn_at heap.items i) (turn_at heap.items j) ≡ b
compared heap i j x y in_i in_j is_x is_y b test = grind (arith, get_or_read_under, heap.ok.0)

-- the first entry is before no other one
pub top_first : (heap : List Entry) → IsHeap heap → (fuel i : ℕ) → i ≤ fuel → i < length heap → precedes (turn_at heap i) (turn_at heap 0) ≡ false
top_first heap ordered zero i within inside = grind (arith, itself (turn_at heap 0))
top_first heap ordered (suc fuel) i within inside =
    grind (arith, same_or_not i 0, itself (turn_at heap 0), across (turn_at heap 0) (turn_at heap (up i)) (turn_at heap i), ordered i, top_first heap ordered fuel (up i))

module _ (heap : List Entry) (at : ℕ) (but : IsHeapBut at heap) where
  -- it is in its place: none below it is before it
  settled : IsAbove at heap → ((c : ℕ) → 0 < c → up c ≡ at → c < length heap → precedes (turn_at heap c) (turn_at heap at) ≡ false) → IsHeap heap
  settled above under c low inside = grind (arith, same_or_not (up c) at, same_or_not c at, but.pairs c, under c)

  pub heap_settled : IsAbove at heap → (child : ℕ) → IsFirstBelow at child heap → precedes (turn_at heap child) (turn_at heap at) ≡ false → IsHeap heap
  heap_settled above child first not_before = grind (arith, settled, across (turn_at heap at) (turn_at heap child), first.least)

  -- or there are none
  pub heap_ended : IsAbove at heap → ((c : ℕ) → 0 < c → up c ≡ at → length heap ≤ c) → IsHeap heap
  heap_ended above none = grind (arith, settled, none)

  module _ (new : List Entry) (len : length new ≡ length heap) where
    swapped : (a b : ℕ) → SwappedAt heap new a b → Swapped (turn_at heap) (turn_at new) a b
    swapped a b by = grind (arith, by.0 no_entry, by.1 no_entry, by.2)

    -- it is exchanged with that above it
    pub risen : 0 < at → SwappedAt heap new (up at) at → IsHeapBut (up at) new
    risen some by =
        let high = across (turn_at heap (up (up at))) (turn_at heap (up at)) in
        grind (arith, swapped (up at) at by, same_or_not, but.pairs, but.bridges, high)

    -- it is exchanged with the first of those below it
    pub sunk : (child : ℕ) → IsFirstBelow at child heap → SwappedAt heap new at child → IsHeapBut child new
    sunk child first by = grind (arith, swapped at child by, same_or_not, (swapped at child by).0, (swapped at child by).1)

    pub sunk_above : (child : ℕ) → IsFirstBelow at child heap → SwappedAt heap new at child → precedes (turn_at heap child) (turn_at heap at) ≡ true → IsAbove child new
    sunk_above child first by before low = grind (arith, swapped at child by, first.below, once (turn_at heap child) (turn_at heap at))

module _ (old new : List Entry) (ordered : IsHeap old) where
  -- an entry has another turn, or is new at the end
  pub heap_put : (at : ℕ) → ((i : ℕ) → i < length new → i ≢ at → (i < length old) × (get_or new i no_entry ≡ get_or old i no_entry)) → IsHeapBut at new
  heap_put at same = grind (arith, across)

  -- the last entry has left
  pub heap_left : length new ≤ length old → ((i : ℕ) → i < length new → get_or new i no_entry ≡ get_or old i no_entry) → IsHeap new
  heap_left fewer same c low inside = grind (arith, same c, same (up c), ordered c)
