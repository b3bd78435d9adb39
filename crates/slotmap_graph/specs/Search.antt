-- Which nodes a search finds, and in which order.
use Rattle.std.specs.Prelude.{◌≡◌, ℕ, zero, suc, Option, Some, None, Bool, true, false, nat_eq, List, [], ◌∷◌, ◌++◌, cond, if◌then◌else◌, option_map}
use Rattle.std.specs.List.{filter_map, fold}
use Rattle.std.specs.FinMap as map
use Rattle.slotmap.specs.Words.{Key, Content, IsBeside, Pairs, contains_key}
use Rattle.slotmap_bounded.specs.KeyLists.{is_key, times}
use Rattle.slotmap_graph.specs.Parts.{SeenEdge, Edges}

module _ {E : Type 0} where
  -- where the edges of a list begin, or end
  abbrev pub ends_along : (SeenEdge E → Key) → Edges E → List Key → List Key
  ends_along end edges ks = filter_map (λ k. option_map end (map.get edges k)) ks

  -- the edges of a list, each under its key
  abbrev pub entries_along : Edges E → List Key → List (Key × SeenEdge E)
  entries_along edges ks = filter_map (λ k. option_map (λ e. (k, e)) (map.get edges k)) ks

  abbrev pub arrives_at : Key → Option (SeenEdge E) → Bool
  arrives_at b None = false
  arrives_at b (Some e) = is_key e.to b

  -- the edge k goes to b
  abbrev pub goes_to : Edges E → Key → Key → Bool
  goes_to edges b k = arrives_at b (map.get edges k)

module _ {E : Type 0} (edges : Edges E) where
  -- an edge goes from a to b
  abbrev pub HasEdge : Key → Key → Type 0
  HasEdge a b = (k : Key) × (e : SeenEdge E) × (map.get edges k ≡ Some e) × (e.from ≡ a) × (e.to ≡ b)

  -- a path of so many edges goes from a to b
  abbrev pub LeadsBy : ℕ → Key → Key → Type 0
  LeadsBy zero a b = a ≡ b
  LeadsBy (suc n) a b = (c : Key) × LeadsBy n a c × HasEdge c b

  -- b is reachable from a: by no edge, or by several
  abbrev pub Leads : Key → Key → Type 0
  Leads a b = (n : ℕ) × LeadsBy n a b

  -- each of these is reachable from a
  abbrev pub AllLed : Key → Pairs (Unit {0}) → Type 0
  AllLed a seen = (x : Key) → contains_key seen x ≡ true → Leads a x

  -- the end of each outgoing edge of a is among these
  abbrev pub HasNext : Key → Pairs (Unit {0}) → Type 0
  HasNext a seen = (b : Key) → HasEdge a b → contains_key seen b ≡ true

-- the list has each of these once, and nothing else
abbrev pub AreSeen : Pairs (Unit {0}) → List Key → Type 0
AreSeen seen found = (x : Key) → times x found ≡ (if contains_key seen x then 1 else 0)

-- the second list is the first, and more behind it
abbrev pub GoesOn : List Key → List Key → Type 0
GoesOn xs ys = (more : List Key) × (ys ≡ xs ++ more)

-- k is put behind the others, unless it is among them
abbrev pub marked : List Key → Key → List Key
marked ks k = cond (nat_eq (times k ks) 0) (ks ++ k ∷ []) ks

-- the start comes first; the list goes on with the next nodes of each of its nodes, in turn, where they aren't in it yet
abbrev pub IsBreadthFirst : (Key → List Key) → Key → List Key → Type 0
IsBreadthFirst next start found = found ≡ fold (λ ks k. fold marked ks (next k)) (start ∷ []) found

-- a search found more, by outgoing edges of a
pub record Finds {N E : Type 0} (nodes : Content N) (edges : Edges E) (a : Key) (seen : Pairs (Unit {0})) (found : List Key) (new : Pairs (Unit {0})) (now : List Key) : Type 0 where
  pub listed : AreSeen new now
  pub live : IsBeside nodes new
  pub behind : GoesOn found now
  pub kept : (x : Key) → contains_key seen x ≡ true → contains_key new x ≡ true
  pub led : (start : Key) → Leads edges start a → AllLed edges start seen → AllLed edges start new
