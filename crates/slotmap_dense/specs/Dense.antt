-- The model of a dense slot map: a content, and the live keys and their values in packed order.
use Rattle.std.specs.FinMap as map
use Rattle.std.specs.Prelude.{◌≡◌, ◌∷◌, ◌++◌, if◌then◌else◌, ℕ, refl, false, List, [], length, Option, None, Some, reverse, slice_get, take, drop, option_map}
use Rattle.slotmap_core.specs.Words.{AllZip, zip, swap_remove, eq_by_cmp, Coded, code_by, coded×, coded_list, Key, key_cmp, coded_key, Content, content_code}
use Rattle.slotmap_core.specs.Words.{IsContent, IsListing, Removes, Leaves, with_value, pushed_all}

pub record Dense (V : Type 0) : Type 0 where
  pub content : Content V
  -- the live keys, and their values at the same positions
  pub keys : List Key
  pub values : List V

-- by which a proof tells two models apart
abbrev pub dense_code : {V : Type 0} → Coded V → Coded (Dense V)
dense_code {V} code =
    code_by (Content V × (List Key × List V)) (coded× (content_code code) (coded× (coded_list coded_key) (coded_list code)))
    (λ d. (d.content, (d.keys, d.values)))
    (λ p. record { content = p.0; keys = p.1.0; values = p.1.1 })
    (λ _. refl)

module _ {V : Type 0} where
  -- what always holds of the model
  pub record IsDense (d : Dense V) : Type 0 where
    -- `false`: an insert may have to allocate even if a slot is vacant
    pub content : IsContent false d.content
    pub same_length : length d.values ≡ length d.keys
    pub listed : IsListing d.content.live (zip d.keys d.values)

  -- the live keys with their values, in packed order
  pub record ListsPairs (d : Dense V) (pairs : List (Key × V)) : Type 0 where
    pub listing : IsListing d.content.live pairs
    pub in_order : pairs ≡ zip d.keys d.values

  -- no key is live
  pub record IsEmpty (d : Dense V) : Type 0 where
    pub keys : d.keys ≡ []
    pub values : d.values ≡ []

  -- the packed order is unchanged
  pub record SameOrder (old new : Dense V) : Type 0 where
    pub keys : new.keys ≡ old.keys
    pub values : new.values ≡ old.values

  -- the same keys in the same packed order, each with a clone of its value
  pub record ClonesInOrder (is_clone : V → V → Type 0) (old new : Dense V) : Type 0 where
    pub keys : new.keys ≡ old.keys
    pub values : AllZip is_clone old.values new.values

  -- the key k and its value v are appended
  pub record Appends (old : Dense V) (k : Key) (v : V) (new : Dense V) : Type 0 where
    pub keys : new.keys ≡ old.keys ++ k ∷ []
    pub values : new.values ≡ old.values ++ v ∷ []

  -- the key k and its value v are removed; the last key and its value have moved to their position
  pub record ClosesGap (old : Dense V) (k : Key) (v : V) (new : Dense V) : Type 0 where
    pub position : ℕ
    pub stood : slice_get old.keys position ≡ Some k
    pub value : slice_get old.values position ≡ Some v
    pub keys : new.keys ≡ swap_remove old.keys position k
    pub values : new.values ≡ swap_remove old.values position v

  -- the values, with v at the position of k
  abbrev pub put_beside : List Key → List V → Key → V → List V
  put_beside [] values k v = values
  put_beside (q ∷ keys) [] k v = []
  put_beside (q ∷ keys) (w ∷ values) k v = (if eq_by_cmp key_cmp q k then v else w) ∷ put_beside keys values k v

  -- the value of a live key
  abbrev pub value_of : Dense V → Key → Option V
  value_of d k = map.get d.content.live k

  -- the live key k has the value v; nothing else changes
  abbrev pub with_value_of : Dense V → Key → V → Dense V
  with_value_of d k v = record { content = with_value d.content k v; keys = d.keys; values = put_beside d.keys d.values k v }

  -- ws, cut to the length of vs or extended to it by the end of vs, because a borrowed slice keeps its length
  abbrev pub refilled : List V → List V → List V
  refilled vs ws = take (length vs) (ws ++ drop (length ws) vs)

  -- the same keys in the same order, with these values
  abbrev pub with_values_in : Dense V → List V → Dense V
  with_values_in d ws = record {
    content = record d.content { live = map.from_entries (zip d.keys (refilled d.values ws)) };
    keys = d.keys;
    values = refilled d.values ws;
  }

  -- the slots of the live keys are freed, from the back of the packed order
  abbrev pub FreesFromBack : Dense V → Dense V → Type 0
  FreesFromBack old new = new.content.stack ≡ option_map (λ stack. pushed_all stack (reverse old.keys)) old.content.stack

  -- the last live key is removed with its value, as `remove` does; or no key is live
  abbrev pub TakesLast : {K : Type 0} → (K → Key) → Dense V → Option (K × V) → Dense V → Type 0
  TakesLast data_of old None new = (old.keys ≡ []) × (new ≡ old)
  TakesLast data_of old (Some pair) new = (map.get old.content.live (data_of pair.0) ≡ Some pair.1) × Removes old.content (data_of pair.0) new.content
      × (old.keys ≡ new.keys ++ data_of pair.0 ∷ []) × (old.values ≡ new.values ++ pair.1 ∷ [])

  -- every live key is removed
  pub record EmptiesDense (old new : Dense V) : Type 0 where
    pub live : new.content.live ≡ map.empty
    pub none : IsEmpty new
    pub leaves : Leaves old.content new.content
    pub order : FreesFromBack old new
    pub capacity : new.content.capacity ≡ old.content.capacity
