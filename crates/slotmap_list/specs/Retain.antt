-- What `retain` does to the elements of a list.
use Rattle.std.specs.Prelude.{◌≡◌, Bool, List, [], ◌∷◌, ◌++◌, if◌then◌else◌}
use Rattle.std.specs.Fn.{Mut, Called, Takes}
use Rattle.std.specs.Borrow.{MutBor}
use Rattle.slotmap.specs.Words.{Key}

module _ {F K T : Type 0} (g : Mut F (K × (MutBor T × Unit {0})) (Bool × (MutBor T × Unit {0}))) (data_of : K → Key) where
  -- a call for the element e takes the closure from f to f', and leaves these elements: e with what the call wrote, or none
  pub record RetainsOne (f : F) (e : Key × T) (left : List (Key × T)) (f' : F) : Type 0 where
    pub key : K
    pub at : data_of key ≡ e.0
    pub shown : MutBor T
    pub shows : shown.now ≡ e.1
    pub stays : Bool
    pub after : MutBor T
    pub called : Called g f (key, (shown, tt)) (stays, (after, tt)) f'
    pub left_is : left ≡ (if stays then (e.0, after.now) ∷ [] else [])

  -- the closure f is called once for each element, from front to back, and is f' then; these elements are left
  abbrev pub RetainsEach : F → List (Key × T) → List (Key × T) → F → Type 0
  RetainsEach f [] new f' = (new ≡ []) × (f' ≡ f)
  RetainsEach f (e ∷ es) new f' = (left : List (Key × T)) × (mid : F) × (rest : List (Key × T)) × RetainsOne f e left mid × RetainsEach mid es rest f' × (new ≡ left ++ rest)

  -- the closure f may be called for each element, in each state in which the calls for those before it leave it
  pub record CallableInOrder (f : F) (es : List (Key × T)) : Type 0 where
    pub at : (before : List (Key × T)) (e : Key × T) (after left : List (Key × T)) (f' : F) (key : K) (shown : MutBor T) → es ≡ before ++ e ∷ after
        → RetainsEach f before left f' → data_of key ≡ e.0 → shown.now ≡ e.1 → Takes g f' (key, (shown, tt))
