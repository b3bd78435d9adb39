-- The model of a `HopSlotMap`: a content, and the blocks that its vacant places form.
use Rattle.std.specs.FinMap as map
use Rattle.std.specs.FinSet as set
use Rattle.std.specs.Prelude.{◌≡◌, ◌⊎◌, ◌+◌, ◌-◌, ◌<◌, ◌≤◌, if◌then◌else◌, ◌==◌, ◌||◌, ◌∷◌, ℕ, zero, suc, refl, Bool, true, false, Option, Some}
use Rattle.std.specs.Prelude.{None, List, []}
use Rattle.slotmap_core.specs.Words.{nat_cmp, Coded, code_by, coded×, Key, is_last, Content, content_code, IsContent, IsLive, used, places, most, freed, with_value, MakesRoom, with_values, Removes}
use Rattle.slotmap_core.specs.Words.{Leaves}
use Rattle.slotmap_hop.specs.Blocks.{Blocks, coded_blocks, HasMaximalBlocks, vacated, offer_place}

pub record HopContent (V : Type 0) : Type 0 where
  pub content : Content V
  pub blocks : Blocks

abbrev pub hop_code : {V : Type 0} → Coded V → Coded (HopContent V)
hop_code {V} code = code_by (Content V × Blocks) (coded× (content_code code) coded_blocks) (λ m. (m.content, m.blocks)) (λ p. record { content = p.0; blocks = p.1 }) (λ _. refl)

-- place 0 is a block of its own, and there is no other block
abbrev pub NoBlocks : Blocks → Type 0
NoBlocks b = (b.sentinel_end ≡ 0) × (b.others ≡ [])

-- a place is vacant if it has a next version; place 0 counts as vacant too
abbrev pub is_vacant_in : map.FinMap nat_cmp ℕ → ℕ → Bool
is_vacant_in next i = (i == 0) || map.contains_key next i

-- The blocks after these keys are removed, one after the other; `next` has the next version of each vacant place. The place
-- of each key joins the blocks, unless it is the last key of its place
abbrev pub blocks_left : map.FinMap nat_cmp ℕ → Blocks → List Key → Blocks
blocks_left next b [] = b
blocks_left next b (k ∷ ks) = blocks_left (freed next k) (if is_last k then b else vacated (is_vacant_in next) b k.index) ks

module _ {V : Type 0} where
  -- place 0 counts as vacant
  abbrev pub counts_vacant : Content V → ℕ → Bool
  counts_vacant c i = is_vacant_in c.next i

  -- the blocks after k is removed: its place joins them, unless k is its last key
  abbrev pub blocks_without : HopContent V → Key → Blocks
  blocks_without m k = if is_last k then m.blocks else vacated (counts_vacant m.content) m.blocks k.index

  -- the blocks after these keys are removed, one after the other
  abbrev pub blocks_without_all : HopContent V → List Key → Blocks
  blocks_without_all m ks = blocks_left m.content.next m.blocks ks

  -- the live key k has the value v; nothing else changes
  abbrev pub hop_with_value : HopContent V → Key → V → HopContent V
  hop_with_value m k v = record { content = with_value m.content k v; blocks = m.blocks }

  -- each key has the value at its position in the list; nothing else changes
  abbrev pub hop_with_values : HopContent V → List Key → List V → HopContent V
  hop_with_values m keys values = record { content = with_values m.content keys values; blocks = m.blocks }

  -- what always holds of the model: no key is detached, vacant slots have no stack, the blocks are the maximal ones, and the
  -- next insert uses the back of the first one in their list
  pub record IsHopContent (m : HopContent V) : Type 0 where
    pub valid : IsContent true m.content
    pub none_detached : m.content.detached ≡ set.empty
    pub no_stack : m.content.stack ≡ None
    pub maximal : HasMaximalBlocks (counts_vacant m.content) m.blocks
    pub offers : used m.content < most → m.content.offer.index ≡ offer_place m.blocks (places m.content + 1)

  -- the live key of the smallest index from i on, or none if no live key has such an index
  abbrev pub IsNextLive : {K : Type 0} → (K → Key) → Content V → ℕ → Option K → Type 0
  IsNextLive data_of c i None = (q : Key) → IsLive c q → q.index < i
  IsNextLive data_of c i (Some k) = IsLive c (data_of k) × (i ≤ (data_of k).index) × ((q : Key) → IsLive c q → i ≤ q.index → (data_of k).index ≤ q.index)

  -- some live key has this index
  abbrev pub HasKeyAt : Content V → ℕ → Type 0
  HasKeyAt c index = (k : Key) × IsLive c k × (k.index ≡ index)

  -- the smallest index of a live key from i on, or none if no live key has such an index
  abbrev pub IsNextPlace : Content V → ℕ → Option ℕ → Type 0
  IsNextPlace c i None = (q : Key) → IsLive c q → q.index < i
  IsNextPlace c i (Some index) = HasKeyAt c index × (i ≤ index) × ((q : Key) → IsLive c q → i ≤ q.index → index ≤ q.index)

  -- an iterator may be at this place: at place 0, or directly after a place that isn't vacant
  abbrev pub MayStand : Content V → ℕ → Type 0
  MayStand c i = (i ≡ 0) ⊎ (counts_vacant c (i - 1) ≡ false)

  -- a call that needs no memory: the map was and is well formed, and its capacity stays
  pub record StaysHop (old new : HopContent V) : Type 0 where
    pub before : IsHopContent old
    pub after : IsHopContent new
    pub capacity : new.content.capacity ≡ old.content.capacity

  -- the live key of this index was removed
  pub record RemovesAt (old : HopContent V) (index : ℕ) (new : HopContent V) : Type 0 where
    pub key : Key
    pub value : V
    pub at : key.index ≡ index
    pub had : map.get old.content.live key ≡ Some value
    pub removes : Removes old.content key new.content
    pub blocks : new.blocks ≡ blocks_without old key
    pub valid : StaysHop old new

  -- every live key was removed, by ascending index
  pub record Clears (old new : HopContent V) : Type 0 where
    pub empty : new.content.live ≡ map.empty
    pub leaves : Leaves old.content new.content
    pub blocks : new.blocks ≡ blocks_without_all old (map.keys old.content.live)
    pub valid : StaysHop old new

  -- A call that may allocate room for one more key: the map was and is well formed, and no capacity is lost. If there is room
  -- already, the capacity stays
  pub record GrowsHop (old new : HopContent V) : Type 0 where
    pub before : IsHopContent old
    pub after : IsHopContent new
    pub capacity : old.content.capacity ≤ new.content.capacity
    pub in_place : 0 < old.content.room → new.content.capacity ≡ old.content.capacity

  -- a call that reserves room for n more keys, where `ok` says that it succeeds; the blocks stay
  pub record MakesHopRoom (old : HopContent V) (n : ℕ) (ok : Type 0) (new : HopContent V) : Type 0 where
    pub makes_room : MakesRoom true old.content n ok new.content
    pub blocks : new.blocks ≡ old.blocks
    pub before : IsHopContent old
    pub after : IsHopContent new
